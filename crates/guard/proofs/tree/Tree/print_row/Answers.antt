use Rattle.std.proofs.Common.{rules}
use Rattle.text.specs.Written.{grows_trans}
use Rattle.guard.proofs.tree.Tree.print_row.Goals as goal
use Rattle.guard.proofs.tree.Tree.print_row.Goals.{then-kind-lt128+in_ok-print_text, else-kind-lt128}

pub returns-in_err-print_name : goal.returns-in_err-print_name
returns-in_err-print_name g c = search (rules, grows_trans)

pub returns-in_err-print_text : goal.returns-in_err-print_text
returns-in_err-print_text g c = search (rules, grows_trans)

pub returns : goal.returns
returns g c =
    let name = grows_trans _ _ _ c.indent.ensures.grows c.print_name.ensures.grows in
    elim c.if-kind-lt128.branch [
      | then-kind-lt128+in_ok-print_text w ↦ record { grows = grows_trans _ _ _ name (grows_trans _ _ _ (rw (← w.out-is) at w.print_text.ensures.grows) c.put.ensures.grows) }
      | else-kind-lt128 w ↦ record { grows = grows_trans _ _ _ name (rw w.out-is at c.put.ensures.grows) }
    ]
