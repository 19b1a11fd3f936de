-- The rules outside the big cycle are sound: `search` walks each program, and each loop cites why its turns come further.
-- Assumes nothing.
use Rattle.std.specs.Prelude.{ℕ, refl, Bool, eqb}
use Rattle.definition.specs.Kinds
use Rattle.definition.specs.Classes
use Rattle.definition.specs.Tape.{In, State}
use Rattle.definition.specs.Grammar as g
use Rattle.definition.specs.Parse.{run}
use Rattle.laws.specs.Progress as far
use Rattle.trees.specs.Sound.{Safe, Moved, free, s_scope, s_seq, s_bump, s_close, s_loop}
use Rattle.trees.specs.Pieces.{moves, moved, taken, marked, kind_seen, while_next, while_token, while_glued, bump_if_safe, bump_while_safe, stream_safe}

pub ruleset steps = (moves, s_close)

-- ## Token streams, attributes, labels, paths, modifiers

pub token_stream_safe : (m : g.Matcher) → Safe (g.token_stream m)
unfolding g.token_stream
token_stream_safe m c l K h = search (steps, stream_safe) depth 12

pub inner_attribute_safe : Safe g.inner_attribute
unfolding g.inner_attribute g.attribute_stream
inner_attribute_safe c l K h = search (steps, bump_if_safe, token_stream_safe) depth 40

pub inner_attributes_safe : Safe g.inner_attributes
unfolding g.inner_attributes
inner_attributes_safe =
    while_glued (Classes.glues Kinds.K-# Kinds.K-!) g.inner_attribute inner_attribute_safe
    (λ i d m s z. far.inner_attribute_further i d m s (far.glues_some _ _ _ _ refl z))

pub attribute_safe : Safe g.attribute
unfolding g.attribute g.attribute_stream
attribute_safe c l K h = search (steps, bump_if_safe, token_stream_safe) depth 40

pub attributes_safe : Safe g.attributes
unfolding g.attributes
attributes_safe =
    while_glued (Classes.glues Kinds.K-# Kinds.K-bracket) g.attribute attribute_safe
    (λ i d m s z. far.attribute_further i d m s (far.glues_some _ _ _ _ refl z))

pub label_safe : Safe g.label
unfolding g.label
label_safe c l K h = search (steps, bump_while_safe) depth 40

pub labels_safe : Safe g.labels
unfolding g.labels
labels_safe = while_token (λ j. eqb j Kinds.K-label) g.label label_safe refl far.label_further

pub ruleset tokens = (steps, bump_if_safe, bump_while_safe, token_stream_safe, inner_attributes_safe, attributes_safe, labels_safe)

pub path_safe : Safe g.path
unfolding g.path free
path_safe c l K h = search steps depth 12

pub generic_paths_safe : Safe g.generic_paths
unfolding g.generic_paths g.generic_path
generic_paths_safe = while_next Classes.is_path_component g.generic_path (λ c l K h. search (tokens, path_safe) depth 12) far.generic_path_further

pub generics_all_safe : Safe g.generics_all
unfolding g.generics_all g.generics
generics_all_safe = while_token (λ j. eqb j Kinds.K-<) g.generics (λ c l K h. search (tokens, generic_paths_safe) depth 20) refl far.generics_further

pub path_segments_safe : Safe g.path_segments
unfolding g.path_segments g.path_segment
path_segments_safe =
    while_next Classes.is_path_component g.path_segment (λ c l K h. search (tokens, generics_all_safe) depth 20)
    (λ i d m s z. far.path_segment_further i d m s (far.path_component_some _ z))

pub path_text_safe : Safe g.path_text
unfolding g.path_text
path_text_safe c l K h = search (tokens, path_segments_safe) depth 12

pub modifier_pub_safe : Safe g.modifier_pub
unfolding g.modifier_pub g.modifier_paren g.modifier_kind
modifier_pub_safe c l K h = search (tokens, path_safe) depth 40

modifiers_moves : (i : In) (d j : ℕ) (m : Bool × Bool) (s : State) → Moved s (run i d j (g.modifiers_turn m) s)
unfolding g.modifiers_turn g.modifier_pub far.Stays
modifiers_moves i d j m s =
    moved i d j (g.modifiers_turn m) s
    (taken (kind_seen Kinds.K-pub _ refl) (λ n1.
    taken (kind_seen Kinds.K-const _ refl) (λ n2.
    taken (kind_seen Kinds.K-async _ refl) (λ n3.
    taken (kind_seen Kinds.K-move _ refl) (λ n4. tt)))))

pub modifiers_safe : Safe g.modifiers
unfolding g.modifiers g.modifiers_turn
modifiers_safe c l K h = s_scope (λ b. s_seq (s_loop (λ m. search (tokens, modifier_pub_safe) depth 30) modifiers_moves))

-- ## Patterns

pub pat_safe : Safe g.pat
unfolding g.pat free
pat_safe c l K h = search steps depth 12

pub pat_items_safe : Safe g.pat_items
unfolding g.pat_items g.pat_item g.pat_or_rest
pat_items_safe = while_glued Classes.is_pat_or_rest g.pat_item (λ c l K h. search (tokens, pat_safe) depth 20) far.pat_item_further

pat_object_moves : (i : In) (d m : ℕ) (u : Unit {0}) (s : State) → Moved s (run i d m (g.pat_object_turn u) s)
unfolding g.pat_object_turn g.pat_object_key far.Stays
pat_object_moves i d m u s = moved i d m (g.pat_object_turn u) s (taken (kind_seen Kinds.K-dotdot _ refl) (λ n1. taken (far.object_key_some _) (λ n2. tt)))

pub pat_object_items_safe : Safe g.pat_object_items
unfolding g.pat_object_items g.pat_object_turn g.pat_object_key g.pat_value
pat_object_items_safe c l K h = s_loop (λ u. search (tokens, pat_safe) depth 30) pat_object_moves

pub ruleset pats = (tokens, path_safe, pat_safe, pat_items_safe, pat_object_items_safe)

pub pat_text_safe : Safe g.pat_text
unfolding g.pat_text g.pat_kind g.pat_anonymous g.pat_group g.pat_path g.pat_negative g.pat_object g.pat_parens g.push g.empty
pat_text_safe c l K h = search pats depth 60

pub pat_list_safe : Safe g.pat_list
unfolding g.pat_list
pat_list_safe =
    while_glued Classes.kind_is_pat _ (λ c l K h. search pats depth 20) (λ i d m s z. far.first_further i d m g.pat _ s (far.pat_further i d m s z))

-- ## Items that hold no expression

pub fields_safe : Safe g.fields
unfolding g.fields g.field g.push
fields_safe = while_token (λ j. eqb j Kinds.K-ident) g.field (λ c l K h. search tokens depth 20) refl far.field_further

pub any_body_safe : Safe g.any_body
unfolding g.any_body g.field_body g.empty
any_body_safe c l K h = search (tokens, fields_safe) depth 30

pub item_struct_safe : Safe g.item_struct
unfolding g.item_struct
item_struct_safe c l K h = search (tokens, any_body_safe) depth 20

pub item_use_safe : Safe g.item_use
unfolding g.item_use free
item_use_safe c l K h = search steps depth 12

pub use_paths_safe : Safe g.use_paths
unfolding g.use_paths g.use_path g.use_item
use_paths_safe =
    while_next Classes.is_use_path g.use_path (λ c l K h. search (tokens, item_use_safe) depth 20)
    (λ i d m s z. far.use_path_further i d m s (far.use_path_some _ z))

use_parts_moves : (i : In) (d m : ℕ) (u : Unit {0}) (s : State) → Moved s (run i d m (g.item_use_turn u) s)
unfolding g.item_use_turn g.use_group Classes.is_use_part Classes.is_path_component Classes.among far.Stays
use_parts_moves i d m u s =
    moved i d m (g.item_use_turn u) s
    (taken (far.not_eof Classes.is_use_part _ refl) (λ n1.
    marked (kind_seen Kinds.K-brace _ refl) (λ n2.
    taken (kind_seen Kinds.K-as _ refl) (λ n3. tt))))

pub item_use_text_safe : Safe g.item_use_text
unfolding g.item_use_text g.use_parts g.item_use_turn g.use_group
item_use_text_safe c l K h = s_seq (s_bump (s_loop (λ u. search (tokens, use_paths_safe) depth 30) use_parts_moves))

pub variants_safe : Safe g.variants
unfolding g.variants g.variant g.variant_item
variants_safe = while_token (λ j. eqb j Kinds.K-ident) g.variant (λ c l K h. search (tokens, any_body_safe) depth 20) refl far.variant_further

pub item_enum_safe : Safe g.item_enum
unfolding g.item_enum g.enum_body
item_enum_safe c l K h = search (tokens, variants_safe) depth 30
