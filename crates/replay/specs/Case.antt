-- What a case of the list says: the entry that it asks, and the answer.
-- Assumes nothing.
use Rattle.std.specs.Prelude.{ℕ, ◌+◌, ◌-◌, ◌≤◌, ◌<◌, ◌≡◌, refl, Bool, true, false, Option, Some, List, [], ◌∷◌, T, length, get_or, take, drop, replicate}
use Rattle.std.proofs.Common.{sym, ◌∙◌, subst, add-zero, length-drop, length-take-le, take_all, take_at, get_or-drop}
use Rattle.std.proofs.lemmas.List.{drop-drop}
use Rattle.std.proofs.Math.Path.{ap}
use native.Mathlib.Omega.{arith}
use Rattle.definition.specs.Parse.{Entry, parse}
use Rattle.definition.specs.Night.{entry_of}
use Rattle.entry.specs.Promise.{Answers, Same, only_answer}
use Rattle.text.specs.Copy.{all_bytes, fits, copied, copied_front, copied_bytes, all_fit}
use Rattle.replay.specs.Wanted.{rows_of}

-- number, place and row count are those that stand at the front of the list's answer
pub record Said (number place rows : ℕ) (said : List ℕ) : Type 0 where
  pub number_is : number ≡ get_or said 0 0
  pub place_is : place ≡ get_or said 1 0
  pub rows_is : rows ≡ get_or said 2 0

-- ## Whether a case holds

-- a test says whether something is so
pub record Decides (r : Bool) (P : Type 0) : Type 0 where
  pub yes : r ≡ true → P
  pub no : P → r ≡ true

-- The definition answers what is said, in a table of n elements: the shape behind number, place and row count stands for so many rows, and the
-- table has these rows and zeros behind them.
pub record Agrees (e : Entry) (limit : ℕ) (kinds lens said : List ℕ) (n : ℕ) : Type 0 where
  pub rows_are : (rows_of (drop 3 said) kinds lens (replicate n 0)).0 ≡ Some (get_or said 2 0)
  pub answers : Answers (parse e kinds lens n limit) n (get_or said 0 0) (get_or said 1 0) (get_or said 2 0) (rows_of (drop 3 said) kinds lens (replicate n 0)).1

-- the same of the case that a list starts with entry, separator and limit of
abbrev pub Holds : List ℕ → List ℕ → List ℕ → List ℕ → ℕ → Type 0
Holds list kinds lens said n = Agrees (entry_of (get_or list 0 0) (get_or list 1 0)) (get_or list 2 0) kinds lens said n

-- the count of the kinds, and of the lengths
abbrev pub nk : List ℕ → ℕ
nk list = get_or list 4 0

abbrev pub nl : List ℕ → ℕ
nl list = get_or list (5 + nk list) 0

-- the kinds behind their count, the lengths behind theirs, and the answer
unfoldable pub kinds_of : List ℕ → List ℕ
kinds_of list = take (nk list) (drop 5 list)

unfoldable pub lens_of : List ℕ → List ℕ
lens_of list = take (nl list) (drop (6 + nk list) list)

unfoldable pub said_of : List ℕ → List ℕ
said_of list = drop (6 + nk list + nl list) list

-- the list is a case, and holds: entry separator limit elements nk kinds nl lengths number place rows shape
pub record Case (list : List ℕ) : Type 0 where
  pub whole : 9 + nk list + nl list ≤ length list
  pub entry_is : get_or list 0 0 ≤ 2
  pub bytes : all_bytes (kinds_of list) ≡ true
  pub holds : Holds list (kinds_of list) (lens_of list) (said_of list) (get_or list 3 0)

-- what is lent has room for it
pub record Fits (list kinds table wanted : List ℕ) : Type 0 where
  pub tokens_fit : nk list ≤ length kinds
  pub table_fits : get_or list 3 0 ≤ length table
  pub wanted_fits : get_or list 3 0 ≤ length wanted

-- these are the parts of a list that may be a case
pub record IsParts (list : List ℕ) (e : Entry) (limit elements : ℕ) (kinds lens said : List ℕ) : Type 0 where
  pub whole : 9 + nk list + nl list ≤ length list
  pub entry_is : get_or list 0 0 ≤ 2
  pub call_is : e ≡ entry_of (get_or list 0 0) (get_or list 1 0)
  pub limit_is : limit ≡ get_or list 2 0
  pub elements_are : elements ≡ get_or list 3 0
  pub kinds_are : kinds ≡ kinds_of list
  pub lens_are : lens ≡ lens_of list
  pub said_is : said ≡ said_of list

pub never : {X : Type 0} → false ≡ true → X
never e = absurd (subst T (sym e) tt)

pub says_no : {P : Type 0} → (P → ⊥) → Decides false P
says_no h = record { yes = λ e. never e; no = λ p. absurd (h p) }

-- ## What the parser answered, held against the list

-- the first three of a list
front : (said : List ℕ) → 3 ≤ length said → take 3 said ≡ get_or said 0 0 ∷ get_or said 1 0 ∷ get_or said 2 0 ∷ []
front [] h = absurd (omega arith)
front (a ∷ []) h = absurd (omega arith)
front (a ∷ b ∷ []) h = absurd (omega arith)
front (a ∷ b ∷ c ∷ l) h = refl

pub said_front : {number place rows : ℕ} {said : List ℕ} → 3 ≤ length said → Said number place rows said → take 3 said ≡ number ∷ place ∷ rows ∷ []
said_front {said = said} h i = rw (i.number_is, i.place_is, i.rows_is) (front said h)

pub front_said : {number place rows : ℕ} (said : List ℕ) → 3 ≤ length said → take 3 said ≡ number ∷ place ∷ rows ∷ [] → Said number place rows said
front_said {number} {place} {rows} said h e =
    let f : get_or said 0 0 ∷ get_or said 1 0 ∷ get_or said 2 0 ∷ [] ≡ number ∷ place ∷ rows ∷ [] = sym (front said h) ∙ e in
    record { number_is = cc; place_is = cc; rows_is = cc }

module _ (e : Entry) (limit : ℕ) (kinds lens said : List ℕ) (n : ℕ) {n' number place rows : ℕ} {table : List ℕ} (size : n' ≡ n)
    (a' : Answers (parse e kinds lens n' limit) n' number place rows table)
  where
    a : Answers (parse e kinds lens n limit) n number place rows table
    a = rw size at a'

    only : Agrees e limit kinds lens said n → Same number (get_or said 0 0) place (get_or said 1 0) rows (get_or said 2 0) table (rows_of (drop 3 said) kinds lens (replicate n 0)).1
    only h = only_answer e kinds lens n limit a h.answers

    pub holds_said : Agrees e limit kinds lens said n → Said number place rows said
    holds_said h = let s = only h in record { number_is = s.number_same; place_is = s.place_same; rows_is = s.rows_same }

    -- r and w are what comes of the shape in a table of zeros
    module _ {w : List ℕ} {r : Option ℕ} (q : (r, w) ≡ rows_of (drop 3 said) kinds lens (replicate n 0)) where
      q_rows : r ≡ (rows_of (drop 3 said) kinds lens (replicate n 0)).0
      q_rows = ap (λ (x : Option ℕ × List ℕ). x.0) q

      q_table : w ≡ (rows_of (drop 3 said) kinds lens (replicate n 0)).1
      q_table = ap (λ (x : Option ℕ × List ℕ). x.1) q

      pub other_count : (r ≡ Some rows → ⊥) → Agrees e limit kinds lens said n → ⊥
      other_count other h = other (q_rows ∙ (h.rows_are ∙ ap Some (sym (only h).rows_same)))

      pub compared : {s : Bool} → r ≡ Some rows → Said number place rows said → Decides s (table ≡ w) → Decides s (Agrees e limit kinds lens said n)
      compared b i d =
          record {
            yes =
                λ t.
                record {
                  rows_are = sym q_rows ∙ (b ∙ ap Some i.rows_is);
                  answers = rw (sym (d.yes t ∙ q_table), sym i.number_is, sym i.place_is, sym i.rows_is) a;
                };
            no = λ h. d.no ((only h).table_same ∙ sym q_table);
          }

-- ## The parts, as the code takes them

pub rest_of : (k : ℕ) (l : List ℕ) → take (length l - k) (drop k l) ≡ drop k l
rest_of k l = take_all (length l - k) (drop k l) (omega (arith, length-drop k l))

-- a list that begins with a count: so many numbers behind it, and what follows them
abbrev pub IsCounted : List ℕ → List ℕ → List ℕ → Type 0
IsCounted list part rest = (1 + get_or list 0 0 ≤ length list) × (part ≡ take (get_or list 0 0) (drop 1 list)) × (rest ≡ drop (1 + get_or list 0 0) list)

-- the same where the count stands behind k numbers
module _ (list : List ℕ) (k : ℕ) where
  count_behind : get_or (drop k list) 0 0 ≡ get_or list k 0
  count_behind = get_or-drop k list 0 0 ∙ ap (λ (i : ℕ). get_or list i 0) (add-zero k)

  part_at : take (get_or (drop k list) 0 0) (drop 1 (drop k list)) ≡ take (get_or list k 0) (drop (k + 1) list)
  part_at =
      ap (λ (n : ℕ). take n (drop 1 (drop k list))) count_behind ∙ ap (λ (l : List ℕ). take (get_or list k 0) l) (drop-drop 1 k list)

  rest_at : drop (1 + get_or (drop k list) 0 0) (drop k list) ≡ drop (k + (1 + get_or list k 0)) list
  rest_at = ap (λ (n : ℕ). drop (1 + n) (drop k list)) count_behind ∙ drop-drop (1 + get_or list k 0) k list

-- the lengths, behind the kinds, and the answer, behind the lengths
module _ (list : List ℕ) {rest ks behind : List ℕ} (is : rest ≡ drop 4 list) (p : IsCounted rest ks behind) where
  lens_behind : behind ≡ drop (5 + nk list) list
  lens_behind =
      subst (λ (r : List ℕ). behind ≡ drop (1 + get_or r 0 0) r) is p.2 ∙ (rest_at list 4 ∙ ap (λ (n : ℕ). drop n list) (omega arith))

  pub short_lens : length behind < 1 + get_or behind 0 0 → Case list → ⊥
  short_lens h c =
      let n : get_or behind 0 0 ≡ nl list = ap (λ (l : List ℕ). get_or l 0 0) lens_behind ∙ count_behind list (5 + nk list) in
      omega (arith, h, n, ap length lens_behind, length-drop (5 + nk list) list, c.whole)

  module _ {ls said : List ℕ} (q : IsCounted behind ls said) where
    said_behind : said ≡ drop (6 + nk list + nl list) list
    said_behind =
        subst (λ (r : List ℕ). said ≡ drop (1 + get_or r 0 0) r) lens_behind q.2 ∙ (rest_at list (5 + nk list) ∙ ap (λ (n : ℕ). drop n list) (omega arith))

    pub short_said : length said < 3 → Case list → ⊥
    short_said h c = omega (arith, h, ap length said_behind, length-drop (6 + nk list + nl list) list, c.whole)

    pub parts_of : {e : Entry} → 3 ≤ length said → (get_or list 0 0 ≤ 2) × (e ≡ entry_of (get_or list 0 0) (get_or list 1 0)) →
        IsParts list e (get_or list 2 0) (get_or list 3 0) ks ls said
    unfolding kinds_of lens_of said_of
    parts_of long call =
        record {
          whole = omega (arith, ap length said_behind, length-drop (6 + nk list + nl list) list, long);
          entry_is = call.0;
          call_is = call.1;
          limit_is = refl;
          elements_are = refl;
          kinds_are = subst (λ (r : List ℕ). ks ≡ take (get_or r 0 0) (drop 1 r)) is p.1 ∙ part_at list 4;
          lens_are =
              subst (λ (r : List ℕ). ls ≡ take (get_or r 0 0) (drop 1 r)) lens_behind q.1 ∙ (part_at list (5 + nk list) ∙ ap (λ (n : ℕ). take (nl list) (drop n list)) (omega arith));
          said_is = said_behind;
        }

-- the parts by index, where t tokens are counted
module _ (list : List ℕ) {t : ℕ} (tokens : t ≡ nk list) where
  pub kinds_at : take (5 + t - 5) (drop 5 list) ≡ kinds_of list
  unfolding kinds_of
  kinds_at =
      let e : 5 + t - 5 ≡ nk list = omega arith in
      rw e

  pub count_at : {l : ℕ} → l ≡ get_or list (5 + t) 0 → l ≡ nl list
  count_at e = e ∙ ap (λ (k : ℕ). get_or list (5 + k) 0) tokens

-- the kinds, once they are copied as bytes
module _ (list kinds : List ℕ) {t : ℕ} (tokens : t ≡ nk list) (whole : 9 + t ≤ length list) where
  kinds_count : length (take (5 + t - 5) (drop 5 list)) ≡ t
  kinds_count =
      let e : 5 + t - 5 ≡ t = omega arith in
      rw e (length-take-le t (drop 5 list) (omega (arith, length-drop 5 list)))

  pub copied_kinds : {r : Bool} {kinds' : List ℕ} → (r ≡ fits (take (5 + t - 5) (drop 5 list)) kinds) × (kinds' ≡ copied (take (5 + t - 5) (drop 5 list)) kinds) → r ≡ true →
      (t ≤ length kinds) × (take t kinds' ≡ kinds_of list)
  copied_kinds c is =
      let f = copied_front (take (5 + t - 5) (drop 5 list)) kinds c is in
      (omega (arith, f.0, kinds_count), rw (f.1, take_at (take (5 + t - 5) (drop 5 list)) (drop (length (take (5 + t - 5) (drop 5 list))) kinds) t kinds_count) (kinds_at list tokens))

  pub bytes_fit : {r : Bool} → all_bytes (kinds_of list) ≡ true → t ≤ length kinds → r ≡ fits (take (5 + t - 5) (drop 5 list)) kinds → r ≡ true
  bytes_fit b h e =
      e ∙ sym (all_fit (take (5 + t - 5) (drop 5 list)) kinds (omega (arith, kinds_count)) (rw (kinds_at list tokens) b)).0

pub said_length : (list : List ℕ) (to : ℕ) → length (take (length list - to) (drop to list)) ≡ length list - to
said_length list to = rw (rest_of to list) (length-drop to list)

pub same_parts : (n : ℕ) (a b : List ℕ) → n ≤ length a → n ≤ length b → length (take n a) ≡ length (take n b)
same_parts n a b h k = length-take-le n a h ∙ sym (length-take-le n b k)

-- ## What the answer comes to

said_room : (list : List ℕ) → 9 + nk list + nl list ≤ length list → 3 ≤ length (said_of list)
unfolding said_of
said_room list h = omega (arith, length-drop (6 + nk list + nl list) list, h)

kinds_length : (list : List ℕ) → 9 + nk list + nl list ≤ length list → length (kinds_of list) ≡ nk list
unfolding kinds_of
kinds_length list h = length-take-le (nk list) (drop 5 list) (omega (arith, length-drop 5 list, h))

-- equal parts agree alike
record Both (P Q : Type 0) : Type 0 where
  pub yes : P → Q
  pub no : Q → P

same_case : {e e' : Entry} {limit limit' : ℕ} {ks ks' ls ls' said said' : List ℕ} {n n' : ℕ} → ks ≡ ks' → ls ≡ ls' → said ≡ said' → n ≡ n' → e ≡ e' → limit ≡ limit' →
    Both (Agrees e limit ks ls said n) (Agrees e' limit' ks' ls' said' n')
same_case p q r s t u = record { yes = λ h. rw (sym p, sym q, sym r, sym s, sym t, sym u) h; no = λ h. rw (p, q, r, s, t, u) h }

module _ (list kinds table wanted : List ℕ) {e : Entry} {limit elements : ℕ} {ks ls said : List ℕ} (p : IsParts list e limit elements ks ls said) where
  pub parts_said : 3 ≤ length said
  parts_said = rw p.said_is (said_room list p.whole)

  -- a table too small for it
  pub too_large : length table < elements → Case list × Fits list kinds table wanted → ⊥
  too_large h (c, f) = absurd (omega (arith, h, p.elements_are, f.table_fits))

  -- kinds that are no bytes, or more than there is room for
  pub not_copied : false ≡ fits ks kinds → Case list × Fits list kinds table wanted → ⊥
  not_copied h (c, f) =
      let len : length ks ≡ nk list = rw p.kinds_are (kinds_length list p.whole) in
      let yes = (all_fit ks kinds (omega (arith, len, f.tokens_fit)) (rw p.kinds_are c.bytes)).0 in
      never (h ∙ sym yes)

  pub judged : {r b : Bool} {kinds' : List ℕ} → elements ≤ length table → elements ≤ length wanted → (b ≡ fits ks kinds) × (kinds' ≡ copied ks kinds) → b ≡ true →
      Decides r (Agrees e limit (take (length ks) kinds') ls said (length (take elements table))) → Decides r (Case list × Fits list kinds table wanted)
  judged {r} {b} {kinds'} te we c is d =
      let f = copied_front ks kinds c is in
      let len : length ks ≡ nk list = rw p.kinds_are (kinds_length list p.whole) in
      let front : take (length ks) kinds' ≡ ks = rw f.1 (take_at ks (drop (length ks) kinds) (length ks) refl) in
      let n : length (take elements table) ≡ get_or list 3 0 = length-take-le elements table te ∙ p.elements_are in
      let same : Both (Agrees e limit (take (length ks) kinds') ls said (length (take elements table))) (Holds list (kinds_of list) (lens_of list) (said_of list) (get_or list 3 0)) = same_case (front ∙ p.kinds_are) p.lens_are p.said_is n p.call_is p.limit_is in
      record {
        yes =
            λ x. (
              record {
                whole = p.whole;
                entry_is = p.entry_is;
                bytes = rw p.kinds_are at (copied_bytes ks kinds c.0 is);
                holds = same.yes (d.yes x);
              },
              record { tokens_fit = omega (arith, f.0, len); table_fits = omega (arith, p.elements_are, te); wanted_fits = omega (arith, p.elements_are, we) },
            );
        no = λ x. d.no (same.no x.0.holds);
      }
