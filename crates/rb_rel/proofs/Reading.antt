-- What is read at a location of words that represent a value.
use Rattle.std.proofs.Common.{◌≡◌, ℕ, suc, ◌+◌, ◌*◌, ◌/◌, ◌≤◌, ◌==◌, ◌&&◌, List, [], ◌∷◌, Bool, true, false, Option, Some, None, Ok, refl, sym, subst, ap, ◌∙◌, arith}
use Rattle.std.specs.Prelude.{slice_get, leb, if◌then◌else◌}
use Rattle.std.specs.Option.{option_or}
use Rattle.std.proofs.lemmas.Bool.{and_parts}
use Rattle.std.proofs.lemmas.Option.{same_Some}
use Rattle.std.proofs.lemmas.Grind.{common_steps}
use Rattle.rb_bits.specs.Words.{take_of}
use Rattle.rb_bytes.specs.Memory.{Memory, load_of}
use Rattle.rb_layout.specs.declared.layout.Leaf.{Leaf}
use Rattle.rb_layout.specs.declared.layout.FlatWord.{FlatWord}
use Rattle.rb_layout.specs.declared.layout.Part.{Part}
use Rattle.rb_layout.specs.declared.layout.Kind.{Kind}
use Rattle.rb_layout.specs.declared.layout.Kind.TheVariants.{Const, Bits, Word, Pointer}
use Rattle.rb_core.specs.declared.layout_decl.Step.{Step}
use Rattle.rb_core.specs.declared.layout_decl.Loc.{Loc}
use Rattle.rb_layout.specs.declared.layout.WordRef.{WordRef}
use Rattle.rb_layout.specs.Words.{words_in, flat_at, begins_at}
use Rattle.rb_rel.specs.Relation.{HoldsKind, LeafStands}
use Rattle.rb_layout.specs.Locations.{Reached, pointed_by, pointed_in, block_in, pointer_block, word_beginning, ref_in, next_ref, range_in, resolve_from, reached_at}
use Rattle.rb_rel.specs.Reading.{WordStands, IsRead, on_loaded, read_from, read_first, read_loc}

-- a part that is such a pointer
pub record IsAt (ps : List Part) (o l align b : ℕ) : Type 0 where
  pub number : ℕ
  pub part : Part
  pub is_part : slice_get ps number ≡ Some part
  pub first : part.o ≡ o
  pub long : part.l ≡ l
  pub is_kind : part.kind ≡ Pointer align b

module _ {A : Type 0} where
  pub chosen : (t : Bool) (x y : A) → (if t then Some x else None) ≡ Some y → (t ≡ true) × (x ≡ y)
  chosen true x y e = (refl, same_Some x y e)
  chosen false x y e = absurd cc

pub same_nat : (a b : ℕ) → (a == b) ≡ true → a ≡ b
same_nat a b e = grind (arith, common_steps)

pub leb_is : (a b : ℕ) → leb a b ≡ true → a ≤ b
leb_is a b e = grind (arith, common_steps)

pointer_kind : (k : Kind) (align b : ℕ) → pointed_by k align ≡ Some b → k ≡ Pointer align b
pointer_kind (Const c) align b e = absurd cc
pointer_kind (Bits path a) align b e = absurd cc
pointer_kind (Word path j) align b e = absurd cc
pointer_kind (Pointer own x) align b e =
    let h = chosen (own == align) x b e in
    let s = same_nat own align h.0 in
    let y = h.1 in cc

pointer_part : (p : Part) (o l align b : ℕ) → pointed_in p o l align ≡ Some b → (p.o ≡ o) × (p.l ≡ l) × (p.kind ≡ Pointer align b)
pointer_part p o l align b =
    let P : Bool → Type 0 = λ t. (if t then pointed_by p.kind align else None) ≡ Some b → (t ≡ true) × (p.kind ≡ Pointer align b) in
    let h = (elim ((p.o == o) && (p.l == l)) as P [ true ↦ λ e. (refl, pointer_kind p.kind align b e) | false ↦ λ e. absurd cc ]) in
    λ e. let x = h e in let y = and_parts (p.o == o) (p.l == l) x.0 in (same_nat p.o o y.0, same_nat p.l l y.1, x.1)

pub block_in-is : (ps : List Part) (o l align b : ℕ) → block_in ps o l align ≡ Some b → IsAt ps o l align b
block_in-is [] o l align b = λ e. absurd cc
block_in-is (p ∷ ps) o l align b =
    let P : Option ℕ → Type 0 = λ x. (pointed_in p o l align ≡ x) → option_or x (block_in ps o l align) ≡ Some b → IsAt (p ∷ ps) o l align b in
    (elim (pointed_in p o l align) as P [
      | None ↦ λ is e. let r = block_in-is ps o l align b e in
          record { number = suc r.number; part = r.part; is_part = r.is_part; first = r.first; long = r.long; is_kind = r.is_kind }
      | Some x ↦ λ is e. let h = pointer_part p o l align b (is ∙ e) in
          record { number = 0; part = p; is_part = refl; first = h.0; long = h.1; is_kind = h.2 }
    ]) refl

-- the word that begins at a byte
pub record Begins (fs : List FlatWord) (start byte width from j : ℕ) : Type 0 where
  pub number : ℕ
  pub word : FlatWord
  pub is_word : slice_get fs number ≡ Some word
  pub is_number : from + number ≡ j
  pub is_byte : start + begins_at fs number ≡ byte
  pub is_width : word.width ≡ width

pub word_beginning-is : (fs : List FlatWord) (start byte width from j : ℕ) → word_beginning fs start byte width from ≡ Some j → Begins fs start byte width from j
word_beginning-is [] start byte width from j = λ e. absurd cc
word_beginning-is (f ∷ fs) start byte width from j =
    let P : Bool → Type 0 = λ t. ((start == byte) && (f.width == width)) ≡ t
    → (if t then Some from else word_beginning fs (start + f.width / 8) byte width (from + 1)) ≡ Some j → Begins (f ∷ fs) start byte width from j in
    (elim ((start == byte) && (f.width == width)) as P [
      | true ↦ λ is e. let h = and_parts (start == byte) (f.width == width) is in
          let s = same_nat start byte h.0 in
          record { number = 0; word = f; is_word = refl; is_number = omega (arith, same_Some from j e); is_byte = omega arith; is_width = same_nat f.width width h.1 }
      | false ↦ λ is e. let r = word_beginning-is fs (start + f.width / 8) byte width (from + 1) j e in
          record { number = suc r.number; word = r.word; is_word = r.is_word; is_number = omega (arith, r.is_number); is_byte = omega (arith, r.is_byte); is_width = r.is_width }
    ]) refl

module _ (leaf : Leaf) (ws : List ℕ) (m : Memory) (clean : Bool) (subs : List ℕ → List ℕ) (ats : ℕ → ℕ) (placed : LeafStands leaf ws m clean subs ats) where
  abbrev At : WordRef → FlatWord → ℕ → Type 0
  At = WordStands leaf ws m clean subs ats

  abbrev Reads : Reached → Option ℕ → Type 0
  Reads = IsRead leaf ws m clean subs ats

  pub stands_at : (r : WordRef) (f : FlatWord) → flat_at leaf r ≡ Some f → (w : ℕ) × At r f w
  stands_at r f is = let h = placed.words r f is in (h.0, record { is_flat = is; is_found = h.1; holds = h.2 })

  last_range : (r : WordRef) (f : FlatWord) (w o l : ℕ) (x : Reached) → At r f w → range_in (Some f) r o l ≡ Some x → Reads x (Some (take_of w o l))
  last_range r f w o l x s e =
      let h = chosen (leb 1 l && leb (o + l) f.width) (record { ref = r; word = f; o = o; l = l }) x e in
      let b = and_parts (leb 1 l) (leb (o + l) f.width) h.0 in
      subst (λ (y : Reached). Reads y (Some (take_of w o l))) h.1 (record {
        found = w;
        stands = s;
        some = leb_is 1 l b.0;
        inside = leb_is (o + l) f.width b.1;
        is_read = refl;
      })

  abbrev Rest : List Step → ℕ → ℕ → Reached → Type 0
  Rest steps o l x = (r : WordRef) (f : FlatWord) (w : ℕ) → At r f w → resolve_from leaf (Some r) o l steps ≡ Some x → Reads x (read_from m w o l steps)

  by_word : (t : Step) (steps : List Step) (r : WordRef) (f : FlatWord) (w o l : ℕ) (x : Reached) → At r f w → Rest steps t.o t.l x
      → (b : ℕ) → IsAt f.parts o l t.align b
      → (found : Option ℕ) → word_beginning (words_in leaf (Some b)) 0 t.byte t.width 0 ≡ found
      → resolve_from leaf (ref_in b found) t.o t.l steps ≡ Some x → Reads x (read_from m w o l (t ∷ steps))
  by_word t steps r f w o l x s rest b p None is e = absurd cc
  by_word t steps r f w o l x s rest b p (Some j) is e =
      let h = word_beginning-is (words_in leaf (Some b)) 0 t.byte t.width 0 j is in
      let at : h.number ≡ j = omega (arith, h.is_number) in
      let r' : WordRef = record { block = Some b; word = j } in
      let y = stands_at r' h.word (ap (slice_get (words_in leaf (Some b))) (sym at) ∙ h.is_word) in
      let holds = s.holds.parts p.number p.part p.is_part in
      let pointed : take_of w o l * t.align ≡ ats b =
      subst (λ (k : Kind). HoldsKind subs ats (take_of w o l) l k) p.is_kind
      (subst (λ k. HoldsKind subs ats (take_of w o k) k p.part.kind) p.long
      (subst (λ k. HoldsKind subs ats (take_of w k p.part.l) p.part.l p.part.kind) p.first holds)) in
      let begins : begins_at (words_in leaf (Some b)) j ≡ t.byte = ap (begins_at (words_in leaf (Some b))) (sym at) ∙ (let z = h.is_byte in omega arith) in
      let e1 : take_of w o l * t.align ≡ ats b = pointed in
      let reads : load_of m (take_of w o l * t.align) t.byte t.width ≡ Ok y.0 =
      ap (λ k. load_of m k t.byte t.width) e1 ∙ ap (λ k. load_of m (ats b) k t.width) (sym begins) ∙ ap (load_of m (ats b) (begins_at (words_in leaf (Some b)) j)) (sym h.is_width) ∙ y.1.is_found in
      subst (λ n. Reads x (on_loaded n (λ k. read_from m k t.o t.l steps))) (sym reads) (rest r' h.word y.0 y.1 e)

  by_block : (t : Step) (steps : List Step) (r : WordRef) (f : FlatWord) (w o l : ℕ) (x : Reached) → At r f w → Rest steps t.o t.l x
      → (found : Option ℕ) → block_in f.parts o l t.align ≡ found
      → resolve_from leaf (next_ref leaf found t) t.o t.l steps ≡ Some x → Reads x (read_from m w o l (t ∷ steps))
  by_block t steps r f w o l x s rest None is e = absurd cc
  by_block t steps r f w o l x s rest (Some b) is e =
      by_word t steps r f w o l x s rest b (block_in-is f.parts o l t.align b is) (word_beginning (words_in leaf (Some b)) 0 t.byte t.width 0) refl e

  reads_from : (steps : List Step) (o l : ℕ) (x : Reached) → Rest steps o l x
  reads_from [] o l x r f w s e = last_range r f w o l x s (ap (λ y. range_in y r o l) (sym s.is_flat) ∙ e)
  reads_from (t ∷ steps) o l x r f w s e =
      by_block t steps r f w o l x s (reads_from steps t.o t.l x) (block_in f.parts o l t.align) refl
      (ap (λ y. resolve_from leaf (next_ref leaf (pointer_block y o l t.align) t) t.o t.l steps) (sym s.is_flat) ∙ e)

  none_resolves : (steps : List Step) (r : WordRef) (o l : ℕ) (x : Reached) → flat_at leaf r ≡ None → resolve_from leaf (Some r) o l steps ≡ Some x → ⊥
  none_resolves [] r o l x is e = let h = ap (λ y. range_in y r o l) (sym is) ∙ e in cc
  none_resolves (t ∷ steps) r o l x is e = let h = ap (λ y. resolve_from leaf (next_ref leaf (pointer_block y o l t.align) t) t.o t.l steps) (sym is) ∙ e in cc

  at_root : (loc : Loc) (x : Reached) (f : Option FlatWord) → flat_at leaf (record { block = None; word = loc.word }) ≡ f
      → reached_at leaf loc ≡ Some x → Reads x (read_loc ws m loc)
  at_root loc x None is e = absurd (none_resolves loc.steps (record { block = None; word = loc.word }) loc.o loc.l x is e)
  at_root loc x (Some f) is e =
      let r : WordRef = record { block = None; word = loc.word } in
      let y = stands_at r f is in
      subst (λ (n : Option ℕ). Reads x (read_first m n loc)) (sym y.1.is_found) (reads_from loc.steps loc.o loc.l x r f y.0 y.1 e)

  -- where a location resolves, the bits of the word there are read
  pub reads_loc : (loc : Loc) (x : Reached) → reached_at leaf loc ≡ Some x → Reads x (read_loc ws m loc)
  reads_loc loc x e =
      let r : WordRef = record { block = None; word = loc.word } in
      at_root loc x (flat_at leaf r) refl e
