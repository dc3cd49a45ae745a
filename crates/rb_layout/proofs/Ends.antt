-- What is known of the end of a location.
use Rattle.std.proofs.Common.{◌≡◌, ℕ, ◌+◌, ◌≤◌, ◌&&◌, List, [], ◌∷◌, Bool, true, false, Option, Some, None, refl, sym, ap, ◌∙◌, arith}
use Rattle.std.specs.Prelude.{leb, if◌then◌else◌}
use Rattle.std.proofs.lemmas.Bool.{and_parts}
use Rattle.std.proofs.lemmas.Option.{same_Some}
use Rattle.std.proofs.lemmas.Grind.{common_steps}
use Rattle.rb_core.specs.declared.layout_decl.Loc.{Loc}
use Rattle.rb_core.specs.declared.layout_decl.Step.{Step}
use Rattle.rb_bits.specs.Words.{IsRange}
use Rattle.rb_layout.specs.declared.layout.Leaf.{Leaf}
use Rattle.rb_layout.specs.declared.layout.FlatWord.{FlatWord}
use Rattle.rb_layout.specs.declared.layout.WordRef.{WordRef}
use Rattle.rb_layout.specs.declared.locate.End.{End}
use Rattle.rb_layout.specs.Words.{flat_at}
use Rattle.rb_layout.specs.Locations.{Reached, pointer_block, next_ref, range_in, resolve_from, reached_at, known_in, number_known, constant_bits}
use Rattle.rb_layout.specs.Readable.{IsReadable}
use Rattle.rb_layout.specs.inner.Ends.{end_of}

-- a location ends at a flat word, with a range in it
pub record EndsAt (leaf : Leaf) (x : Reached) : Type 0 where
  pub is_word : flat_at leaf x.ref ≡ Some x.word
  pub some : 1 ≤ x.l
  pub within : x.o + x.l ≤ x.word.width

leb_is : (a b : ℕ) → leb a b ≡ true → a ≤ b
leb_is a b e = grind (arith, common_steps)

ends_case : (leaf : Leaf) (r : WordRef) (f : FlatWord) (o l : ℕ) (x : Reached) (t : Bool) → flat_at leaf r ≡ Some f → (leb 1 l && leb (o + l) f.width) ≡ t
    → (if t then Some (record { ref = r; word = f; o = o; l = l }) else None) ≡ Some x → EndsAt leaf x
ends_case leaf r f o l x false is t e = absurd cc
ends_case leaf r f o l x true is t e =
    let b = and_parts (leb 1 l) (leb (o + l) f.width) t in
    let first : 1 ≤ l = leb_is 1 l b.0 in
    let last : o + l ≤ f.width = leb_is (o + l) f.width b.1 in
    let same = same_Some _ x e in
    let here : EndsAt leaf (record { ref = r; word = f; o = o; l = l }) = record { is_word = is; some = first; within = last } in
    rw (← same) here

ends_in : (leaf : Leaf) (r : WordRef) (f : Option FlatWord) (o l : ℕ) (x : Reached) → flat_at leaf r ≡ f → range_in f r o l ≡ Some x → EndsAt leaf x
ends_in leaf r None o l x is e = absurd cc
ends_in leaf r (Some f) o l x is e = ends_case leaf r f o l x (leb 1 l && leb (o + l) f.width) is refl e

ends_from : (leaf : Leaf) (r : Option WordRef) (o l : ℕ) (steps : List Step) (x : Reached) → resolve_from leaf r o l steps ≡ Some x → EndsAt leaf x
ends_from leaf None o l steps x e = absurd cc
ends_from leaf (Some r) o l [] x e = ends_in leaf r (flat_at leaf r) o l x refl e
ends_from leaf (Some r) o l (s ∷ steps) x e = ends_from leaf (next_ref leaf (pointer_block (flat_at leaf r) o l s.align) s) s.o s.l steps x e

pub ends-at : (leaf : Leaf) (loc : Loc) (x : Reached) → reached_at leaf loc ≡ Some x → EndsAt leaf x
ends-at leaf loc x e = ends_from leaf (Some (record { block = None; word = loc.word })) loc.o loc.l loc.steps x e

reached_case : (r : Option Reached) (end : End) → Some end ≡ end_of r → (x : Reached) × (r ≡ Some x) × (end ≡ record { at = x.ref; o = x.o; l = x.l })
reached_case None end e = absurd cc
reached_case (Some x) end e = (x, refl, same_Some _ _ e)

-- where a location was found to end, it does
pub record FoundAt (leaf : Leaf) (loc : Loc) (end : End) : Type 0 where
  pub reached : Reached
  pub is_reached : reached_at leaf loc ≡ Some reached
  pub is_word : flat_at leaf end.at ≡ Some reached.word
  pub is_o : end.o ≡ reached.o
  pub is_l : end.l ≡ reached.l
  pub range : IsRange end.o end.l

pub found-at : (leaf : Leaf) (loc : Loc) (end : End) → IsReadable leaf → Some end ≡ end_of (reached_at leaf loc) → FoundAt leaf loc end
found-at leaf loc end readable e =
    let r = reached_case (reached_at leaf loc) end e in
    let x = r.0 in
    let at = ends-at leaf loc x r.1 in
    let short = (readable.words x.ref.block).short x.ref.word x.word at.is_word in
    let some = at.some in
    let within = at.within in
    let same_at : end.at ≡ x.ref = ap (λ y. y.at) r.2 in
    let same_o : end.o ≡ x.o = ap (λ y. y.o) r.2 in
    let same_l : end.l ≡ x.l = ap (λ y. y.l) r.2 in
    record {
      reached = x;
      is_reached = r.1;
      is_word = ap (flat_at leaf) same_at ∙ at.is_word;
      is_o = same_o;
      is_l = same_l;
      range = (omega arith, omega arith);
    }

none_case : (r : Option Reached) → None ≡ end_of r → r ≡ None
none_case None e = refl
none_case (Some x) e = absurd cc

pub not_found : (leaf : Leaf) (loc : Loc) → None ≡ end_of (reached_at leaf loc) → reached_at leaf loc ≡ None
not_found leaf loc e = none_case (reached_at leaf loc) e

pub known-not_found : (leaf : Leaf) (loc : Loc) → None ≡ end_of (reached_at leaf loc) → None ≡ number_known leaf loc
known-not_found leaf loc e = ap known_in (sym (not_found leaf loc e))

pub known-found : (leaf : Leaf) (loc : Loc) (end : End) → (f : FlatWord) → FoundAt leaf loc end → flat_at leaf end.at ≡ Some f
    → constant_bits f.parts end.o end.l ≡ number_known leaf loc
known-found leaf loc end f found is =
    let same = same_Some _ _ (sym is ∙ found.is_word) in
    rw (same, found.is_o, found.is_l) (ap known_in (sym found.is_reached))
