-- A fault that ends a call is passed on by the calls round it, and parts are answered one after another.
use Rattle.std.proofs.Common.{◌≡◌, ℕ, suc, ◌+◌, ◌<◌, ◌≤◌, List, [], ◌∷◌, ◌++◌, map, drop, length, get_or, Ok, Err, IfErr, refl, sym, ap, ◌∙◌, subst, add-one}
use Rattle.std.specs.Result.{IsErrAnd}
use Rattle.rb_names.specs.declared.fault.NameFault.{NameFault}
use Rattle.rb_names.specs.declared.fault.NameFault.TheVariants.{Twice, Unknown, NoMain, Memory}
use Rattle.std.proofs.lemmas.List.{append_assoc, append-nil, drop_all}
use Rattle.rb_names.specs.Scopes.{Scope}
use Rattle.rb_names.specs.Numbering.{Resolved, Numbered, Numbering, numbered_as, and_then, all_of, in_turn}
use Rattle.rb_names.proofs.ListLemmas.{drop-here}
use Rattle.rb_names.specs.Answers.{AnswersNumbering}
use Rattle.rb_names.specs.inner.Parts.{AnswersFrom}
use Rattle.rb_names.specs.inner.Joining.{parts_before, behind_in_turn}

through : {A B : Type 0} (fault : NameFault) (here : Resolved A) (gives : Resolved B)
    → AnswersNumbering (Err fault) here → ((f : NameFault) → here ≡ Err f → gives ≡ Err f) → AnswersNumbering (Err fault) gives
through Memory here gives h k = tt
through (Twice name at) here gives h k = k _ h
through (Unknown name at) here gives h k = k _ h
through NoMain here gives h k = k _ h

pub Answers-fails : {A B : Type 0} (r : Resolved B) (fault : NameFault) (here : Resolved A) (gives : Resolved B)
    → IsErrAnd r (λ e. e ≡ fault) → AnswersNumbering (Err fault) here → ((f : NameFault) → here ≡ Err f → gives ≡ Err f) → AnswersNumbering r gives
Answers-fails (Err e) fault here gives is h k = subst (λ x. AnswersNumbering (Err x) gives) (sym is) (through fault here gives h k)
Answers-fails (Ok done) fault here gives is h k = absurd is

pub Answers-from : {A : Type 0} (fault : NameFault) (next : ℕ) (gives : Resolved (Numbered A)) → AnswersFrom (Err fault) next gives → AnswersNumbering (Err fault) gives
Answers-from Memory next gives h = h
Answers-from (Twice name at) next gives h = h
Answers-from (Unknown name at) next gives h = h
Answers-from NoMain next gives h = h

-- what is said of a fault is said of the one that is passed on
pub err-kept : {A : Type 0} (r : Resolved A) (fault : NameFault) (P : NameFault → Type 0) → IsErrAnd r (λ e. e ≡ fault) → P fault → IfErr r P
err-kept (Err e) fault P is h = subst P (sym is) h
err-kept (Ok done) fault P is h = absurd is

-- One part after another, by the tables alone.
module _ {T A : Type 0} (rule : T → Resolved A) (ts : List T) (i : ℕ) (xs : List A) where
  abbrev rest : Resolved (List A)
  rest = all_of (map rule (drop (suc i) ts))

  abbrev joined : Resolved A → Resolved (List A)
  joined r = and_then r (λ x. and_then rest (λ ys. Ok (x ∷ ys)))

  before-one : (new : List A) (x : A) (r : Resolved (List A)) → new ≡ xs ++ x ∷ [] → parts_before new r ≡ parts_before xs (and_then r (λ ys. Ok (x ∷ ys)))
  before-one new x (Ok ys) is = ap Ok (ap (λ zs. zs ++ ys) is ∙ append_assoc xs (x ∷ []) ys)
  before-one new x (Err f) is = refl

  module _ (t : T) (lt : i < length ts) (is : t ≡ get_or ts i t) where
    parts_from : (r : Resolved A) → rule t ≡ r → parts_before xs (all_of (map rule (drop i ts))) ≡ parts_before xs (joined r)
    parts_from r h = ap (λ us. parts_before xs (all_of (map rule us))) (drop-here ts i t lt is) ∙ ap (λ q. parts_before xs (joined q)) h

    -- one more is found
    pub parts-next : (new : List A) (x : A) → new ≡ xs ++ x ∷ [] → rule t ≡ Ok x
        → parts_before new (all_of (map rule (drop (i + 1) ts))) ≡ parts_before xs (all_of (map rule (drop i ts)))
    parts-next new x grown h = rw (add-one i) (before-one new x rest grown ∙ sym (parts_from (Ok x) h))

    -- one of them fails
    pub part-fails : (all : Resolved (List A)) → parts_before xs (all_of (map rule (drop i ts))) ≡ all → (f : NameFault) → rule t ≡ Err f → all ≡ Err f
    part-fails all inv f h = sym inv ∙ parts_from (Err f) h

  -- all are found
  pub parts-end : (all : Resolved (List A)) → length ts ≤ i → parts_before xs (all_of (map rule (drop i ts))) ≡ all → all ≡ Ok xs
  parts-end all le inv = sym inv ∙ ap (λ us. parts_before xs (all_of (map rule us))) (drop_all i ts le) ∙ ap Ok (append-nil xs)

-- One part after another, where each has binders.
module _ {T A : Type 0} (rule : T → Numbering A) (scope : Scope) where
  turn_from : (ts : List T) (i : ℕ) (t : T) (next : ℕ) → i < length ts → t ≡ get_or ts i t
      → in_turn (map rule (drop i ts)) scope next
      ≡ and_then (rule t scope next) (λ x. and_then (in_turn (map rule (drop (suc i) ts)) scope x.next) (λ xs. numbered_as (x.what ∷ xs.what) xs.next))
  turn_from ts i t next lt is = ap (λ us. in_turn (map rule us) scope next) (drop-here ts i t lt is)

  behind-one : (xs new : List A) (x : A) (rest : Resolved (Numbered (List A))) → new ≡ xs ++ x ∷ []
      → behind_in_turn new rest ≡ behind_in_turn xs (and_then rest (λ ys. numbered_as (x ∷ ys.what) ys.next))
  behind-one xs new x (Ok ys) is = ap (λ zs. numbered_as (zs ++ ys.what) ys.next) is ∙ ap (λ zs. numbered_as zs ys.next) (append_assoc xs (x ∷ []) ys.what)
  behind-one xs new x (Err f) is = refl

  pub turn-next : (ts : List T) (i : ℕ) (t : T) (xs new : List A) (x : A) (next after : ℕ) → i < length ts → t ≡ get_or ts i t → new ≡ xs ++ x ∷ []
      → rule t scope next ≡ Ok (record { what = x; next = after })
      → behind_in_turn new (in_turn (map rule (drop (i + 1) ts)) scope after) ≡ behind_in_turn xs (in_turn (map rule (drop i ts)) scope next)
  turn-next ts i t xs new x next after lt is grown h =
      rw (add-one i) (behind-one xs new x (in_turn (map rule (drop (suc i) ts)) scope after) grown
      ∙ ap (behind_in_turn xs) (sym (turn_from ts i t next lt is
      ∙ ap (λ r. and_then r (λ y. and_then (in_turn (map rule (drop (suc i) ts)) scope y.next) (λ ys. numbered_as (y.what ∷ ys.what) ys.next))) h)))

  -- one of them fails
  pub turn-fails : (ts : List T) (i : ℕ) (t : T) (xs : List A) (next : ℕ) → i < length ts → t ≡ get_or ts i t → (all : Resolved (Numbered (List A)))
      → behind_in_turn xs (in_turn (map rule (drop i ts)) scope next) ≡ all → (f : NameFault) → rule t scope next ≡ Err f → all ≡ Err f
  turn-fails ts i t xs next lt is all inv f h =
      sym inv
      ∙ ap (behind_in_turn xs) (turn_from ts i t next lt is
      ∙ ap (λ r. and_then r (λ y. and_then (in_turn (map rule (drop (suc i) ts)) scope y.next) (λ ys. numbered_as (y.what ∷ ys.what) ys.next))) h)

  -- all are found
  pub turn-end : (ts : List T) (i : ℕ) (xs : List A) (next : ℕ) → length ts ≤ i → (all : Resolved (Numbered (List A)))
      → behind_in_turn xs (in_turn (map rule (drop i ts)) scope next) ≡ all → all ≡ numbered_as xs next
  turn-end ts i xs next le all inv =
      sym inv ∙ ap (λ us. behind_in_turn xs (in_turn (map rule us) scope next)) (drop_all i ts le) ∙ ap (λ zs. numbered_as zs next) (append-nil xs)
