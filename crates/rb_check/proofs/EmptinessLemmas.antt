-- Marked types have values, and where no type is left to be marked, no other type has one.
use Rattle.std.proofs.Common.{◌≡◌, ℕ, zero, suc, ◌+◌, ◌<◌, ◌^◌, List, [], ◌∷◌, map, length, Bool, true, false, ◌&&◌, ◌||◌, Option, Some, None, replicate, refl, sym, ap, ◌∙◌, arith}
use Rattle.std.proofs.Math.ListN.{set}
use Rattle.std.proofs.Math.Bool.{or-true}
use Rattle.std.proofs.Math.Pow.{pow_pos}
use Rattle.std.specs.Prelude.{slice_get, nat_lt, MatchOption}
use Rattle.std.specs.List.{list_any, list_all}
use Rattle.std.proofs.lemmas.Bool.{and_parts}
use Rattle.std.proofs.lemmas.Bool.Decides.{nat_tests}
use Rattle.rb_core.specs.declared.types.Ty.{Ty}
use Rattle.rb_core.specs.declared.types.Ty.TheVariants.{Int, Named}
use Rattle.rb_core.specs.declared.types.Con.{Con}
use Rattle.rb_core.specs.declared.types.DataDecl.{DataDecl}
use Rattle.rb_core.specs.declared.value.Value.{Value, Num, Con as Made}
use Rattle.rb_core.specs.Values.{is_of_type, of_type_step, all_of_types, are_of, fields_in, fields_of_con}
use Rattle.rb_core.specs.TypedPrograms.{HasValue, HaveValues, IsEmpty, IsFirstEmpty}
use Rattle.rb_core.proofs.ValueLaws.{fold-Num, fold-Con, Each, induction}
use Rattle.rb_check.specs.inner.Emptiness.{mark_of, is_marked, constructor_is_live, type_is_live, IsSettled, AllMarked, IsFirstUnmarked}

-- how many types have no mark
abbrev pub unmarked_count : List Bool → ℕ
unmarked_count [] = 0
unmarked_count (true ∷ ms) = unmarked_count ms
unmarked_count (false ∷ ms) = 1 + unmarked_count ms

pub unmarked_count-set : (ms : List Bool) (t : ℕ) → t < length ms → mark_of ms t ≡ false → unmarked_count (set ms t true) < unmarked_count ms
unmarked_count-set [] t lt e = absurd (omega arith)
unmarked_count-set (true ∷ ms) zero lt e = cc
unmarked_count-set (false ∷ ms) zero lt e = omega arith
unmarked_count-set (true ∷ ms) (suc t) lt e = unmarked_count-set ms t (omega arith) e
unmarked_count-set (false ∷ ms) (suc t) lt e = let less = unmarked_count-set ms t (omega arith) e in omega arith

pub mark_of-replicate : (n t : ℕ) → mark_of (replicate n false) t ≡ false
mark_of-replicate zero t = refl
mark_of-replicate (suc n) zero = refl
mark_of-replicate (suc n) (suc t) = mark_of-replicate n t

-- a mark after one is set: that one's, or one from before
pub mark_of-set : (ms : List Bool) (t s : ℕ) (P : ℕ → Type 0) → P t → ((u : ℕ) → mark_of ms u ≡ true → P u) → mark_of (set ms t true) s ≡ true → P s
mark_of-set [] t s P here before e = before s e
mark_of-set (m ∷ ms) zero zero P here before e = here
mark_of-set (m ∷ ms) zero (suc s) P here before e = before (suc s) e
mark_of-set (m ∷ ms) (suc t) zero P here before e = before zero e
mark_of-set (m ∷ ms) (suc t) (suc s) P here before e = mark_of-set ms t s (λ n. P (suc n)) here (λ u. before (suc u)) e

-- some item passes, at its place
pub record SomeItem {A : Type 0} (test : A → Bool) (xs : List A) : Type 0 where
  pub place : ℕ
  pub item : A
  pub there : slice_get xs place ≡ Some item
  pub passes : test item ≡ true

next_item : {A : Type 0} (test : A → Bool) (x : A) (xs : List A) → SomeItem test xs → SomeItem test (x ∷ xs)
next_item test x xs s = record { place = suc s.place; item = s.item; there = s.there; passes = s.passes }

item_of : {A : Type 0} (test : A → Bool) (x : A) (xs : List A) (b : Bool) → test x ≡ b → (list_any test xs ≡ true → SomeItem test xs)
    → (b || list_any test xs) ≡ true → SomeItem test (x ∷ xs)
item_of test x xs true h later e = record { place = 0; item = x; there = refl; passes = h }
item_of test x xs false h later e = next_item test x xs (later e)

some_item : {A : Type 0} (test : A → Bool) (xs : List A) → list_any test xs ≡ true → SomeItem test xs
some_item test [] e = cc
some_item test (x ∷ xs) e = item_of test x xs (test x) refl (λ k. some_item test xs k) e

any_item : {A : Type 0} (test : A → Bool) (xs : List A) (k : ℕ) (x : A) → slice_get xs k ≡ Some x → test x ≡ true → list_any test xs ≡ true
any_item test [] k x e h = cc
any_item test (y ∷ ys) zero x e h = let same : y ≡ x = cc in rw (same, h) refl
any_item test (y ∷ ys) (suc k) x e h = rw (any_item test ys k x e h) (or-true (test y))

module _ (types : List DataDecl) (marks : List Bool) where
  abbrev of_types : List Value → List (Ty → Bool)
  of_types = map (is_of_type types)

  made : (k : ℕ) (vs : List Value) (t : ℕ) → is_of_type types (Made k vs) (Named t) ≡ are_of (of_types vs) (fields_in (slice_get types t) k)
  made k vs t = ap (λ (f : Ty → Bool). f (Named t)) (fold-Con (Ty → Bool) (of_type_step types) k vs)

  number_fits : (n bits : ℕ) → is_of_type types (Num n) (Int bits) ≡ nat_lt n (2 ^ bits)
  number_fits n bits = ap (λ (f : Ty → Bool). f (Int bits)) (fold-Num (Ty → Bool) (of_type_step types) n)

  number_is_no_data : (n t : ℕ) → is_of_type types (Num n) (Named t) ≡ false
  number_is_no_data n t = ap (λ (f : Ty → Bool). f (Named t)) (fold-Num (Ty → Bool) (of_type_step types) n)

  -- values of a constructor's fields
  pub record Values (ts : List Ty) : Type 0 where
    pub values : List Value
    pub fit : all_of_types (of_types values) ts ≡ true

  zero_fits : (bits : ℕ) → is_of_type types (Num 0) (Int bits) ≡ true
  zero_fits bits = let some : 0 < 2 ^ bits = pow_pos bits in number_fits 0 bits ∙ grind (arith, nat_tests, some)

  field_values : ((u : ℕ) → mark_of marks u ≡ true → HasValue types u) → (ts : List Ty) → list_all (is_marked marks) ts ≡ true → Values ts
  field_values sound [] e = record { values = []; fit = refl }
  field_values sound (Int bits ∷ ts) e =
      let rest : Values ts = field_values sound ts e in
      record { values = Num 0 ∷ rest.values; fit = ap (λ b. b && all_of_types (of_types rest.values) ts) (zero_fits bits) ∙ rest.fit }
  field_values sound (Named u ∷ ts) e =
      let here : HasValue types u = sound u (and_parts (mark_of marks u) (list_all (is_marked marks) ts) e).0 in
      let rest : Values ts = field_values sound ts (and_parts (mark_of marks u) (list_all (is_marked marks) ts) e).1 in
      record { values = here.0 ∷ rest.values; fit = ap (λ b. b && all_of_types (of_types rest.values) ts) here.1 ∙ rest.fit }

  -- a type with a constructor from marked types has a value
  pub live-has_value : ((u : ℕ) → mark_of marks u ≡ true → HasValue types u) → (t : ℕ) (d : DataDecl) → slice_get types t ≡ Some d
      → type_is_live marks d ≡ true → HasValue types t
  live-has_value sound t d there live =
      let con : SomeItem (constructor_is_live marks) d.cons = some_item (constructor_is_live marks) d.cons live in
      let parts : Values con.item.fields = field_values sound con.item.fields con.passes in (
        Made con.place parts.values,
        made con.place parts.values t
            ∙ ap (λ o. are_of (of_types parts.values) (fields_in o con.place)) there
            ∙ ap (λ o. are_of (of_types parts.values) (fields_of_con o)) con.there
            ∙ parts.fit,
      )

  abbrev TypesAreMarked : Value → Type 0
  TypesAreMarked v = (ty : Ty) → is_of_type types v ty ≡ true → is_marked marks ty ≡ true

  fields_are_marked : (vs : List Value) (ts : List Ty) → Each TypesAreMarked vs → all_of_types (of_types vs) ts ≡ true → list_all (is_marked marks) ts ≡ true
  fields_are_marked [] [] each e = refl
  fields_are_marked [] (t ∷ ts) each e = cc
  fields_are_marked (v ∷ vs) [] each e = cc
  fields_are_marked (v ∷ vs) (t ∷ ts) each e =
      let here = and_parts (is_of_type types v t) (all_of_types (of_types vs) ts) e in
      rw (each.0 t here.0) (fields_are_marked vs ts each.1 here.1)

  module _ (settled : IsSettled types marks) where
    of_constructor : (t k : ℕ) (d : DataDecl) (vs : List Value) → slice_get types t ≡ Some d → Each TypesAreMarked vs
        → (o : Option Con) → slice_get d.cons k ≡ o → are_of (of_types vs) (fields_of_con o) ≡ true → mark_of marks t ≡ true
    of_constructor t k d vs there each None con e = cc
    of_constructor t k d vs there each (Some c) con e =
        by_mark (mark_of marks t) refl
      where
        by_mark : (b : Bool) → mark_of marks t ≡ b → mark_of marks t ≡ true
        by_mark true h = h
        by_mark false h =
            let live = any_item (constructor_is_live marks) d.cons k c con (fields_are_marked vs c.fields each e) in
            let dead = settled t d there h in cc

    of_data : (t k : ℕ) (vs : List Value) → Each TypesAreMarked vs → (o : Option DataDecl) → slice_get types t ≡ o
        → are_of (of_types vs) (fields_in o k) ≡ true → mark_of marks t ≡ true
    of_data t k vs each None there e = cc
    of_data t k vs each (Some d) there e = of_constructor t k d vs there each (slice_get d.cons k) refl e

    number_types : (n : ℕ) → TypesAreMarked (Num n)
    number_types n (Int bits) e = refl
    number_types n (Named t) e = let no = number_is_no_data n t in cc

    made_types : (k : ℕ) (vs : List Value) → Each TypesAreMarked vs → TypesAreMarked (Made k vs)
    made_types k vs each (Int bits) e = refl
    made_types k vs each (Named t) e = of_data t k vs each (slice_get types t) refl (sym (made k vs t) ∙ e)

    -- each type of a value is marked
    pub types_are_marked : (v : Value) → TypesAreMarked v
    types_are_marked = induction TypesAreMarked number_types made_types

    pub unmarked-is_empty : (t : ℕ) → mark_of marks t ≡ false → IsEmpty types t
    unmarked-is_empty t unmarked v = by_type (is_of_type types v (Named t)) refl
      where
        by_type : (b : Bool) → is_of_type types v (Named t) ≡ b → is_of_type types v (Named t) ≡ false
        by_type false h = h
        by_type true h = let marked = types_are_marked v (Named t) h in cc

    pub found-first_empty : (o : Option ℕ) → length marks ≡ length types → ((u : ℕ) → mark_of marks u ≡ true → HasValue types u)
        → MatchOption o (AllMarked marks) (IsFirstUnmarked marks) → MatchOption o (HaveValues types) (IsFirstEmpty types)
    found-first_empty None same sound all = λ t lt. sound t (all t (omega arith))
    found-first_empty (Some t) same sound first = record {
      declared = let lt = first.within in omega arith;
      empty = unmarked-is_empty t first.unmarked;
      before = λ s lt. sound s (first.before s lt);
    }
