-- Where all parts of a leaf were examined without fault, each constant stands where it is due, and each pointer leads to the
-- address that was found for its block, at which a block of its size begins, and falls.
use Rattle.std.proofs.Common.{◌≡◌, ℕ, ◌+◌, ◌*◌, ◌<◌, ◌≤◌, ◌==◌, inl, inr, Bool, true, false, List, [], ◌∷◌, length, Option, Some, None, Result, Ok, Err, refl, sym, subst, ap, ◌∙◌, arith}
use Rattle.std.specs.Prelude.{slice_get, slice_index, slice_set, if◌then◌else◌}
use Rattle.std.proofs.lemmas.Grind.{common_steps}
use Rattle.std.proofs.lemmas.List.{length-set, get_or-set_same, get_or-set_other}
use Rattle.std.proofs.lemmas.Option.{same_Some}
use Rattle.rb_layout.specs.declared.layout.Kind.{Kind}
use Rattle.rb_layout.specs.declared.layout.Kind.TheVariants.{Const, Bits, Word, Pointer}
use Rattle.rb_layout.specs.declared.layout.Leaf.{Leaf}
use Rattle.rb_image_text.specs.declared.fault.ImageFault.{ImageFault}
use Rattle.rb_image_text.specs.declared.fault.ImageFault.TheVariants.{BadBits, BadPointer}
use Rattle.rb_image_text.specs.declared.image.ImageBlock.{ImageBlock}
use Rattle.rb_image.specs.declared.kept.Kept.{Kept}
use Rattle.rb_image.specs.Blocks.{size_at}
use Rattle.rb_image.specs.Falling.{AddressFalls}
use Rattle.rb_image.specs.Orders.{LocatedPart}
use Rattle.rb_image.specs.Parts.{bits_at, block_from, block_size, examine, examine_kind, examine_part, pointer_lead, if_size, kept_at}
use Rattle.rb_image.specs.Splits.{and_then, or_fault, pointed_from, range_of}
use Rattle.rb_image.proofs.FallLemmas.{pointed_is, same_Ok}
use Rattle.rb_image.proofs.PlacedSpots.{AreLed, BlockSeen}
use Rattle.rb_image.proofs.PointerLemmas.{points, points_same, pointing}
use Rattle.rb_image.proofs.SpotLemmas.{In}

-- Results ------------------------------------------------------------------------------------
pub then_ok : {A B : Type 0} (r : Result A ImageFault) (go : A → Result B ImageFault) (y : B) → ◌≡◌ {A = Result B ImageFault} (and_then r go) (Ok y)
    → (x : A) × ◌≡◌ {A = Result A ImageFault} r (Ok x) × ◌≡◌ {A = Result B ImageFault} (go x) (Ok y)
then_ok (Ok x) go y e = (x, refl, e)
then_ok (Err fault) go y e = absurd cc

or_ok : {A : Type 0} (o : Option A) (f : ImageFault) (x : A) → ◌≡◌ {A = Result A ImageFault} (or_fault o f) (Ok x) → o ≡ Some x
or_ok None f x e = absurd cc
or_ok (Some y) f x e = ap Some (same_Ok y x e)

if_some : {A : Type 0} (b : Bool) (x y : A) → (if b then Some x else None) ≡ Some y → (b ≡ true) × (x ≡ y)
if_some true x y e = (refl, same_Some x y e)
if_some false x y e = absurd cc

if_ok : (b : Bool) (x y : List ℕ) (f : ImageFault) → ◌≡◌ {A = Result (List ℕ) ImageFault} (if b then Ok x else Err f) (Ok y) → (b ≡ true) × (x ≡ y)
if_ok true x y f e = (refl, same_Ok x y e)
if_ok false x y f e = absurd cc

pub same_number : (a b : ℕ) → (a == b) ≡ true → a ≡ b
same_number a b e = grind (arith, common_steps)

-- One part -----------------------------------------------------------------------------------
module _ (m : List ImageBlock) (leaf : Leaf) (ws : List Kept) where
  sized : (at wanted a : ℕ) (r : Option ℕ) → size_at m at ≡ r → if_size at wanted r ≡ Some a → (at ≡ a) × (size_at m a ≡ Some wanted)
  sized at wanted a None is e = absurd cc
  sized at wanted a (Some size) is e =
      let c = if_some (size == wanted) at a e in
      (c.1, ap (size_at m) (sym c.1) ∙ is ∙ ap Some (same_number size wanted c.0))

  block_is : (o : Option ℕ) (size a : ℕ) → block_from m o size ≡ Some a → (o ≡ Some a) × (size_at m a ≡ Some size)
  block_is None size a e = absurd cc
  block_is (Some at) size a e = let r = sized at size a (size_at m at) refl e in (ap Some r.0, r.1)

  pub followed_is : (bits : Kept) (align b at : ℕ) → ◌≡◌ {A = Result ℕ ImageFault} (pointer_lead m leaf bits align b) (Ok at)
      → (bits.number * align ≡ at) × (size_at m at ≡ Some (block_size (slice_get leaf.blocks b))) × AddressFalls bits.base at
  followed_is bits align b at e =
      let target = bits.number * align in
      let r = block_is (pointed_from bits.base target) (block_size (slice_get leaf.blocks b)) at (or_ok _ (BadPointer bits.base target) at e) in
      let q = pointed_is bits.base target at r.0 in
      (q.0, r.1, subst (AddressFalls bits.base) q.0 q.2)

  -- what is examined of a part, where these are the addresses of blocks
  abbrev pub FineKind : List ℕ → Kept → Kind → Type 0
  FineKind ats bits (Const c) = bits.number ≡ c
  FineKind ats bits (Bits path a) = Unit {0}
  FineKind ats bits (Word path j) = Unit {0}
  FineKind ats bits (Pointer align b) = (bits.number * align ≡ slice_index ats b) × (size_at m (slice_index ats b) ≡ Some (block_size (slice_get leaf.blocks b)))
      × AddressFalls bits.base (slice_index ats b)

  abbrev pub IsFine : List ℕ → LocatedPart → Type 0
  IsFine ats s = FineKind ats (bits_at m ws ats s) s.part.kind

  -- Addresses stay ---------------------------------------------------------------------------
  one_some : (align b c : ℕ) → points c (Pointer align b) ≡ 0 → c ≡ b → ⊥
  one_some align b c none e = let one = ap (λ x. points x (Pointer align b)) e ∙ points_same b align in omega (arith, none, one)

  -- a part that does not point to a block leaves its address
  kind_keeps : (c : ℕ) (ats new : List ℕ) (bits : Kept) (kind : Kind) → points c kind ≡ 0 → ◌≡◌ {A = Result (List ℕ) ImageFault} (examine_kind m leaf ats bits kind) (Ok new) → slice_index new c ≡ slice_index ats c
  kind_keeps c ats new bits (Const x) none e = ap (λ xs. slice_index xs c) (sym (if_ok (bits.number == x) ats new (BadBits bits.base bits.place) e).1)
  kind_keeps c ats new bits (Bits path a) none e = ap (λ xs. slice_index xs c) (sym (same_Ok ats new e))
  kind_keeps c ats new bits (Word path j) none e = ap (λ xs. slice_index xs c) (sym (same_Ok ats new e))
  kind_keeps c ats new bits (Pointer align b) none e =
      let r = then_ok (pointer_lead m leaf bits align b) (λ at. Ok (slice_set ats b at)) new e in
      ap (λ xs. slice_index xs c) (sym (same_Ok (slice_set ats b r.0) new r.2)) ∙ get_or-set_other ats b c r.0 0 (one_some align b c none)

  kind_long : (ats new : List ℕ) (bits : Kept) (kind : Kind) → ◌≡◌ {A = Result (List ℕ) ImageFault} (examine_kind m leaf ats bits kind) (Ok new) → length new ≡ length ats
  kind_long ats new bits (Const x) e = ap length (sym (if_ok (bits.number == x) ats new (BadBits bits.base bits.place) e).1)
  kind_long ats new bits (Bits path a) e = ap length (sym (same_Ok ats new e))
  kind_long ats new bits (Word path j) e = ap length (sym (same_Ok ats new e))
  kind_long ats new bits (Pointer align b) e =
      let r = then_ok (pointer_lead m leaf bits align b) (λ at. Ok (slice_set ats b at)) new e in
      ap length (sym (same_Ok (slice_set ats b r.0) new r.2)) ∙ length-set ats b r.0

  pub keeps : (c : ℕ) (ss : List LocatedPart) (ats new : List ℕ) → pointing c ss ≡ 0 → ◌≡◌ {A = Result (List ℕ) ImageFault} (examine m leaf ws ats ss) (Ok new) → slice_index new c ≡ slice_index ats c
  keeps c [] ats new none e = ap (λ xs. slice_index xs c) (sym (same_Ok ats new e))
  keeps c (s ∷ ss) ats new none e =
      let r = then_ok (examine_part m leaf ws ats s) (λ found. examine m leaf ws found ss) new e in
      keeps c ss r.0 new (omega (arith, none)) r.2 ∙ kind_keeps c ats r.0 (bits_at m ws ats s) s.part.kind (omega (arith, none)) r.1

  -- All parts --------------------------------------------------------------------------------
  abbrev IsWithin : LocatedPart → Type 0
  IsWithin s = (align b : ℕ) → s.part.kind ≡ Pointer align b → b < length leaf.blocks

  module _ (new : List ℕ) where
    -- what a part is found to be where it is examined, it is in the end
    fine_kind : (ats found : List ℕ) (ss : List LocatedPart) (bits : Kept) (kind : Kind) → length ats ≡ length leaf.blocks → ((align b : ℕ) → kind ≡ Pointer align b → b < length leaf.blocks)
        → ((c : ℕ) → points c kind + pointing c ss ≤ 1) → ◌≡◌ {A = Result (List ℕ) ImageFault} (examine_kind m leaf ats bits kind) (Ok found)
        → ◌≡◌ {A = Result (List ℕ) ImageFault} (examine m leaf ws found ss) (Ok new) → FineKind new bits kind
    fine_kind ats found ss bits (Const c) long within once e rest = same_number bits.number c (if_ok (bits.number == c) ats found (BadBits bits.base bits.place) e).0
    fine_kind ats found ss bits (Bits path a) long within once e rest = tt
    fine_kind ats found ss bits (Word path j) long within once e rest = tt
    fine_kind ats found ss bits (Pointer align b) long within once e rest =
        let r = then_ok (pointer_lead m leaf bits align b) (λ at. Ok (slice_set ats b at)) found e in
        let at = r.0 in
        let f = followed_is bits align b at r.1 in
        let lt = within align b refl in
        let one = points_same b align in
        let few = once b in
        let none : pointing b ss ≡ 0 = omega (arith, one, few) in
        let is : slice_index new b ≡ at =
        keeps b ss found new none rest ∙ ap (λ xs. slice_index xs b) (sym (same_Ok (slice_set ats b at) found r.2)) ∙ get_or-set_same ats b at 0 (omega (arith, long, lt)) in
        (f.0 ∙ sym is, ap (size_at m) is ∙ f.1, subst (AddressFalls bits.base) (sym is) f.2)

    block_kept : (ats : List ℕ) (s : LocatedPart) (o : Option ℕ) → ((b : ℕ) → o ≡ Some b → slice_index new b ≡ slice_index ats b) → kept_at m ws ats o s ≡ kept_at m ws new o s
    block_kept ats s None same = refl
    block_kept ats s (Some b) same = ap (λ a. kept_at m ws (a ∷ []) (Some 0) s) (sym (same b refl))

    seen_some : (seen : ℕ → ℕ) (o : Option ℕ) (b : ℕ) → BlockSeen seen o → o ≡ Some b → 1 ≤ seen b
    seen_some seen None b h e = absurd cc
    seen_some seen (Some a) b h e = subst (λ x. 1 ≤ seen x) (same_Some a b e) h

    pub all_fine : (ss : List LocatedPart) (ats : List ℕ) (seen : ℕ → ℕ) → length ats ≡ length leaf.blocks → ((c : ℕ) → seen c + pointing c ss ≤ 1) → AreLed seen ss → ((s : LocatedPart) → In s ss → IsWithin s)
        → ◌≡◌ {A = Result (List ℕ) ImageFault} (examine m leaf ws ats ss) (Ok new) → (s : LocatedPart) → In s ss → IsFine new s
    all_fine [] ats seen long once led within e s h = absurd h
    all_fine (x ∷ ss) ats seen long once led within e s h =
        let r = then_ok (examine_part m leaf ws ats x) (λ found. examine m leaf ws found ss) new e in
        elim h [
          | inl same ↦ subst (IsFine new) (sym same) (here r.0 r.1 r.2)
          | inr g ↦ all_fine ss r.0 (λ c. points c x.part.kind + seen c) (kind_long ats r.0 (bits_at m ws ats x) x.part.kind r.1 ∙ long)
              (λ c. (let a = once c in omega (arith, a))) led.1 (λ t k. within t (inr k)) r.2 s g
        ]
      where
        here : (found : List ℕ) → ◌≡◌ {A = Result (List ℕ) ImageFault} (examine_part m leaf ws ats x) (Ok found) → ◌≡◌ {A = Result (List ℕ) ImageFault} (examine m leaf ws found ss) (Ok new) → IsFine new x
        here found first rest =
            let bits : kept_at m ws ats x.block x ≡ kept_at m ws new x.block x = block_kept ats x x.block (λ b is.
            (let some = seen_some seen x.block b led.0 is in let a = once b in let none : pointing b (x ∷ ss) ≡ 0 = omega (arith, some, a) in keeps b (x ∷ ss) ats new none e)) in
            subst (λ k. FineKind new (range_of k x.part.o x.part.l) x.part.kind) bits
            (fine_kind ats found ss (bits_at m ws ats x) x.part.kind long (within x (inl refl)) (λ c. (let a = once c in omega (arith, a))) first rest)
