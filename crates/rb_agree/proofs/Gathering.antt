-- Rows of runs that grow.
use Rattle.std.proofs.Common.{◌≡◌, ◌≢◌, ℕ, zero, suc, ◌+◌, ◌<◌, List, [], ◌∷◌, ◌++◌, length, Bool, true, false, ◌&&◌, ◌==◌, if◌then◌else◌, Some, Result, Ok, Err, OnOk, refl, sym, ap, subst, ◌∙◌, arith, append_assoc, append-nil, eqb-true}
use mathlib.Core.Bool.{beq}
use Rattle.std.specs.Prelude.{slice_get, slice_set}
use Rattle.std.proofs.lemmas.Bool.{and_parts}
use Rattle.std.proofs.lemmas.Grind.{common_steps}
use Rattle.std.proofs.lemmas.Option.{same_Some, get_or_from_slice_get}
use Rattle.rb_core.specs.declared.types.Ty.{Ty}
use Rattle.rb_core.specs.declared.types.Ty.TheVariants.{Int, Named}
use Rattle.rb_layout.specs.declared.layout.Leaf.{Leaf}
use Rattle.rb_layout.specs.declared.layout.Part.{Part}
use Rattle.rb_layout.specs.declared.layout.Kind.{Kind}
use Rattle.rb_layout.specs.declared.layout.Kind.TheVariants.{Const, Bits, Word, Pointer}
use Rattle.rb_layout.specs.Flattening.{same_path}
use Rattle.rb_layout.specs.declared.opens.OpenPosition.{OpenPosition}
use Rattle.rb_agree.specs.declared.runs.Run.{Run}
use Rattle.rb_agree.specs.inner.Held.{kind_runs, part_runs}
use Rattle.rb_agree.specs.inner.Gathered.{Runs, AreGathered, AreNone, Gathers, blocks_runs, has_words, row, run_there, same_units, words_runs}
use Rattle.rb_agree.specs.inner.Search.{AreOrdered, HasNone, IsNumberOf}
use Rattle.rb_agree.proofs.Halving.{one-at}

-- Rows ------------------------------------------------------------------------------------------------

pub set-twice : (rows : List (List Run)) (n : ℕ) (a b : List Run) → slice_set (slice_set rows n a) n b ≡ slice_set rows n b
set-twice [] n a b = refl
set-twice (r ∷ rows) zero a b = refl
set-twice (r ∷ rows) (suc n) a b = ap (λ (rest : List (List Run)). r ∷ rest) (set-twice rows n a b)

pub set-count : (rows : List (List Run)) (n : ℕ) (a : List Run) → length (slice_set rows n a) ≡ length rows
set-count [] n a = refl
set-count (r ∷ rows) zero a = refl
set-count (r ∷ rows) (suc n) a = ap (λ m. suc m) (set-count rows n a)

set-here : (rows : List (List Run)) (n : ℕ) (a : List Run) → n < length rows → row (slice_set rows n a) n ≡ a
set-here [] n a h = absurd (omega (arith, h))
set-here (r ∷ rows) zero a h = refl
set-here (r ∷ rows) (suc n) a h = set-here rows n a (omega (arith, h))

set-other : (rows : List (List Run)) (n k : ℕ) (a : List Run) → n ≢ k → row (slice_set rows n a) k ≡ row rows k
set-other [] n k a h = refl
set-other (r ∷ rows) zero zero a h = absurd (h refl)
set-other (r ∷ rows) zero (suc k) a h = refl
set-other (r ∷ rows) (suc n) zero a h = refl
set-other (r ∷ rows) (suc n) (suc k) a h = set-other rows n k a (λ e. h (ap (λ m. suc m) e))

-- a run is added
pub run-added : (rows mid new : List (List Run)) (n : ℕ) (was : List Run) (run : Run) → slice_get rows n ≡ Some was → mid ≡ slice_set rows n [] → new ≡ slice_set mid n (was ++ run ∷ [])
    → new ≡ slice_set rows n (row rows n ++ run ∷ [])
run-added rows mid new n was run e f g =
    g ∙ ap (λ (rs : List (List Run)). slice_set rs n (was ++ run ∷ [])) f ∙ set-twice rows n [] (was ++ run ∷ [])
    ∙ ap (λ (r : List Run). slice_set rows n (r ++ run ∷ [])) (sym (get_or_from_slice_get rows n was [] e))

none-pushed : (rows : List (List Run)) → ((n : ℕ) → row rows n ≡ []) → (n : ℕ) → row (rows ++ [] ∷ []) n ≡ []
none-pushed [] h zero = refl
none-pushed [] h (suc n) = refl
none-pushed (r ∷ rows) h zero = h 0
none-pushed (r ∷ rows) h (suc n) = none-pushed rows (λ k. h (suc k)) n

pub none-more : (count : ℕ) (rows new : List (List Run)) → new ≡ rows ++ [] ∷ [] → AreNone count rows → AreNone (count + 1) new
none-more count rows new e h = record {
  count_is = let c = h.count_is in grind (arith, common_steps);
  each = λ n. ap (λ (rs : List (List Run)). row rs n) e ∙ none-pushed rows h.each n;
}

-- What is added one after the other -----------------------------------------------------------------------

module _ (places : List OpenPosition) where
  -- what is still to be added, and the whole
  pub record GathersRest (whole rest : Runs) (old new : List (List Run)) : Type 0 where
    pub count : length new ≡ length old
    pub each : (n : ℕ) (place : OpenPosition) → slice_get places n ≡ Some place → row new n ++ rest place.ty place.path ≡ row old n ++ whole place.ty place.path

  pub rest-first : (whole : Runs) (old : List (List Run)) → GathersRest whole whole old old
  rest-first whole old = record { count = refl; each = λ n place e. refl }

  pub rest-next : (whole rest more runs : Runs) (old mid new : List (List Run)) → ((ty : Ty) (path : List ℕ) → rest ty path ≡ runs ty path ++ more ty path)
      → GathersRest whole rest old mid → Gathers places runs mid new → GathersRest whole more old new
  rest-next whole rest more runs old mid new is h g = record {
    count = g.count ∙ h.count;
    each = λ n place e.
        ap (λ (r : List Run). r ++ more place.ty place.path) (g.each n place e)
        ∙ append_assoc (row mid n) (runs place.ty place.path) (more place.ty place.path)
        ∙ ap (λ (r : List Run). row mid n ++ r) (sym (is place.ty place.path)) ∙ h.each n place e;
  }

  pub rest-last : (whole rest : Runs) (old new : List (List Run)) → ((ty : Ty) (path : List ℕ) → rest ty path ≡ []) → GathersRest whole rest old new → Gathers places whole old new
  rest-last whole rest old new is h = record {
    count = h.count;
    each = λ n place e. sym (append-nil (row new n)) ∙ ap (λ (r : List Run). row new n ++ r) (sym (is place.ty place.path)) ∙ h.each n place e;
  }

  pub none-gathered : (old : List (List Run)) → Gathers places (λ ty path. []) old old
  none-gathered old = record { count = refl; each = λ n place e. sym (append-nil (row old n)) }

  -- the same, said of other runs
  pub gathered-as : (runs others : Runs) (old new : List (List Run)) → ((ty : Ty) (path : List ℕ) → runs ty path ≡ others ty path) → Gathers places runs old new → Gathers places others old new
  gathered-as runs others old new is g = record {
    count = g.count;
    each = λ n place e. g.each n place e ∙ ap (λ (r : List Run). row old n ++ r) (is place.ty place.path);
  }

  pub call-gathered : {T E : Type 0} (r : Result T E) (runs others : Runs) (old new : List (List Run)) → ((ty : Ty) (path : List ℕ) → runs ty path ≡ others ty path)
      → OnOk r (Gathers places runs old new) → OnOk r (Gathers places others old new)
  call-gathered (Ok x) runs others old new is g = gathered-as runs others old new is g
  call-gathered (Err e) runs others old new is g = g

  pub all-gathered : (leaf : Leaf) (none mid new : List (List Run)) (count : ℕ) → AreNone count none → Gathers places (words_runs leaf.root) none mid → Gathers places (blocks_runs leaf.blocks) mid new
      → AreGathered leaf places new
  all-gathered leaf none mid new count h f g = λ n place e.
      g.each n place e
      ∙ ap (λ (r : List Run). r ++ blocks_runs leaf.blocks place.ty place.path) (f.each n place e ∙ ap (λ (r : List Run). r ++ words_runs leaf.root place.ty place.path) (h.each n))

pub units-same : (a b : Bool) → beq a b ≡ true → a ≡ b
units-same true true e = refl
units-same true false e = absurd cc
units-same false true e = absurd cc
units-same false false e = refl

pub units-other : (a b : Bool) → beq a b ≡ false → a ≢ b
units-other true true e same = absurd cc
units-other true false e same = absurd cc
units-other false true e same = absurd cc
units-other false false e same = absurd cc

-- A part ------------------------------------------------------------------------------------------------

pub bits-there : (p : Part) (path : List ℕ) (first : ℕ) → p.kind ≡ Bits path first → (ty : Ty) (q : List ℕ) → run_there path false (record { first = first; count = p.l }) ty q ≡ part_runs ty q p
bits-there p path first e ty q = by ty ∙ ap (λ (k : Kind). kind_runs ty q p.l k) (sym e) where
  by : (ty : Ty) → run_there path false (record { first = first; count = p.l }) ty q ≡ kind_runs ty q p.l (Bits path first)
  by (Int bits) = refl
  by (Named s) = refl

pub word-there : (p : Part) (path : List ℕ) (number : ℕ) → p.kind ≡ Word path number → (ty : Ty) (q : List ℕ) → run_there path true (record { first = number; count = 1 }) ty q ≡ part_runs ty q p
word-there p path number e ty q = by ty ∙ ap (λ (k : Kind). kind_runs ty q p.l k) (sym e) where
  by : (ty : Ty) → run_there path true (record { first = number; count = 1 }) ty q ≡ kind_runs ty q p.l (Word path number)
  by (Int bits) = refl
  by (Named s) = refl

pub const-none : (p : Part) (c : ℕ) → p.kind ≡ Const c → (ty : Ty) (q : List ℕ) → [] ≡ part_runs ty q p
const-none p c e ty q = by ty ∙ ap (λ (k : Kind). kind_runs ty q p.l k) (sym e) where
  by : (ty : Ty) → [] ≡ kind_runs ty q p.l (Const c)
  by (Int bits) = refl
  by (Named s) = refl

pub pointer-none : (p : Part) (align block : ℕ) → p.kind ≡ Pointer align block → (ty : Ty) (q : List ℕ) → [] ≡ part_runs ty q p
pointer-none p align block e ty q = by ty ∙ ap (λ (k : Kind). kind_runs ty q p.l k) (sym e) where
  by : (ty : Ty) → [] ≡ kind_runs ty q p.l (Pointer align block)
  by (Int bits) = refl
  by (Named s) = refl

path-is : (p q : List ℕ) → same_path p q ≡ true → p ≡ q
path-is [] [] e = refl
path-is [] (j ∷ q) e = absurd cc
path-is (i ∷ p) [] e = absurd cc
path-is (i ∷ p) (j ∷ q) e = let b = and_parts (i == j) (same_path p q) e in let x = eqb-true i j b.0 in let y = path-is p q b.1 in cc

same-self : (p : List ℕ) → same_path p p ≡ true
same-self [] = refl
same-self (i ∷ p) = let e : (i == i) ≡ true = grind (arith, common_steps) in rw e (same-self p)

units-are : (a b : Bool) → a ≡ b → same_units a b ≡ true
units-are true true e = refl
units-are true false e = absurd cc
units-are false true e = absurd cc
units-are false false e = refl

units-differ : (a b : Bool) → a ≢ b → same_units a b ≡ false
units-differ true true e = absurd (e refl)
units-differ true false e = refl
units-differ false true e = refl
units-differ false false e = absurd (e refl)

if-off : (a b : Bool) (run : Run) → b ≡ false → (if a && b then run ∷ [] else []) ≡ []
if-off true b run e = rw e refl
if-off false b run e = refl

off-path : (p q : List ℕ) → q ≢ p → same_path p q ≡ false
off-path p q h = elim (same_path p q) as (λ (b : Bool). same_path p q ≡ b → b ≡ false) [
  | true ↦ λ e. absurd (h (sym (path-is p q e)))
  | false ↦ λ e. refl
] refl

module _ (places : List OpenPosition) (path : List ℕ) (words : Bool) (run : Run) where
  pub nowhere : (old : List (List Run)) → HasNone places path → Gathers places (run_there path words run) old old
  nowhere old h = record {
    count = refl;
    each = λ n place e.
        sym (append-nil (row old n))
        ∙ ap (λ (r : List Run). row old n ++ r) (sym (if-off (same_units words (has_words place.ty)) (same_path path place.path) run (off-path path place.path (h n place e))));
  }

  module _ (order : AreOrdered places) (n : ℕ) (h : IsNumberOf places path n) (old new : List (List Run)) where
    elsewhere : (k : ℕ) (place : OpenPosition) → slice_get places k ≡ Some place → n ≢ k → run_there path words run place.ty place.path ≡ []
    elsewhere k place e other = if-off (same_units words (has_words place.ty)) (same_path path place.path) run
        (off-path path place.path (λ same. one-at places order n k h.0 place h.1 e other (h.2 ∙ sym same)))

    pub other-units : words ≢ has_words h.0.ty → new ≡ old → Gathers places (run_there path words run) old new
    other-units differ e = record { count = ap (λ (rs : List (List Run)). length rs) e; each = λ k place f. ap (λ (rs : List (List Run)). row rs k) e ∙ sym (append-nil (row old k)) ∙ ap (λ (r : List Run). row old k ++ r) (sym (none k place f)) } where
      none : (k : ℕ) (place : OpenPosition) → slice_get places k ≡ Some place → run_there path words run place.ty place.path ≡ []
      none k place f = elim (n == k) as (λ (b : Bool). (n == k) ≡ b → run_there path words run place.ty place.path ≡ []) [
        | true ↦ λ s. let one : h.0 ≡ place = same_Some h.0 place (sym h.1 ∙ subst (λ m. slice_get places m ≡ Some place) (sym (eqb-true n k s)) f) in
            let off : same_units words (has_words place.ty) ≡ false = ap (λ (x : OpenPosition). same_units words (has_words x.ty)) (sym one) ∙ units-differ words (has_words h.0.ty) differ in
            rw off refl
        | false ↦ λ s. elsewhere k place f (λ same. let t : (n == k) ≡ true = grind (arith, common_steps, same) in cc)
      ] refl

    pub here-added : words ≡ has_words h.0.ty → n < length old → new ≡ slice_set old n (row old n ++ run ∷ []) → Gathers places (run_there path words run) old new
    here-added same within e = record {
      count = ap (λ (rs : List (List Run)). length rs) e ∙ set-count old n (row old n ++ run ∷ []);
      each = λ k place f. ap (λ (rs : List (List Run)). row rs k) e ∙ at k place f;
    } where
      at : (k : ℕ) (place : OpenPosition) → slice_get places k ≡ Some place → row (slice_set old n (row old n ++ run ∷ [])) k ≡ row old k ++ run_there path words run place.ty place.path
      at k place f = elim (n == k) as (λ (b : Bool). (n == k) ≡ b → row (slice_set old n (row old n ++ run ∷ [])) k ≡ row old k ++ run_there path words run place.ty place.path) [
        | true ↦ λ s. let is : n ≡ k = eqb-true n k s in
            let one : h.0 ≡ place = same_Some h.0 place (sym h.1 ∙ subst (λ m. slice_get places m ≡ Some place) (sym is) f) in
            let on : same_units words (has_words place.ty) ≡ true = ap (λ (x : OpenPosition). same_units words (has_words x.ty)) (sym one) ∙ units-are words (has_words h.0.ty) same in
            let there : same_path path place.path ≡ true = ap (λ (x : OpenPosition). same_path path x.path) (sym one) ∙ ap (λ (q : List ℕ). same_path path q) h.2 ∙ same-self path in
            let added : run_there path words run place.ty place.path ≡ run ∷ [] = rw (on, there) refl in
            subst (λ m. row (slice_set old n (row old n ++ run ∷ [])) m ≡ row old m ++ run_there path words run place.ty place.path) is
            (set-here old n (row old n ++ run ∷ []) within ∙ ap (λ (r : List Run). row old n ++ r) (sym added))
        | false ↦ λ s. let other : n ≢ k = λ same. let t : (n == k) ≡ true = grind (arith, common_steps, same) in cc in
            set-other old n k (row old n ++ run ∷ []) other ∙ sym (append-nil (row old k)) ∙ ap (λ (r : List Run). row old k ++ r) (sym (elsewhere k place f other))
      ] refl
