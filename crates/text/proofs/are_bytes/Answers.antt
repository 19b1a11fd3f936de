use Rattle.std.proofs.Common.{ℕ, leb, ◌∙◌, rules, tests}
use Rattle.std.proofs.lemmas.Iterator.{YieldsList-from_slice}
use Rattle.std.proofs.lemmas.Iterator.Search.{all_from_yields_List}
use Rattle.text.specs.Copy.{all_bytes_test}
use Rattle.text.proofs.are_bytes.Goals as goal

pub returns : goal.returns
returns c =
    all_from_yields_List (λ (x : ℕ). leb x 255) _ _ c.all.result c.all.ensures.ran (YieldsList-from_slice c.args.from.now cc) (λ x b q k. search (rules, tests)) ∙ all_bytes_test c.args.from.now
