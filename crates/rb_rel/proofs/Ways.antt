-- Each part of a leaf has a location: from a root word, through pointer after pointer.
use Rattle.std.proofs.Common.{◌≡◌, ℕ, zero, suc, ◌+◌, ◌/◌, ◌≤◌, ◌==◌, ◌&&◌, List, [], ◌∷◌, ◌++◌, Bool, true, false, Option, Some, None, refl, sym, subst, ap, ◌∙◌, arith}
use Rattle.std.specs.Prelude.{slice_get, leb, if◌then◌else◌}
use Rattle.std.specs.Option.{option_or}
use Rattle.std.proofs.lemmas.Option.{same_Some}
use Rattle.std.proofs.lemmas.Grind.{common_steps}
use Rattle.rb_core.specs.declared.layout_decl.Step.{Step}
use Rattle.rb_core.specs.declared.layout_decl.Loc.{Loc}
use Rattle.rb_layout.specs.declared.layout.Leaf.{Leaf}
use Rattle.rb_layout.specs.declared.layout.FlatWord.{FlatWord}
use Rattle.rb_layout.specs.declared.layout.Part.{Part}
use Rattle.rb_layout.specs.declared.layout.Kind.{Kind}
use Rattle.rb_layout.specs.declared.layout.Kind.TheVariants.{Pointer}
use Rattle.rb_layout.specs.declared.layout.WordRef.{WordRef}
use Rattle.rb_layout.specs.Words.{words_in, flat_at, begins_at}
use Rattle.rb_layout.specs.Locations.{Reached, pointed_by, pointed_in, block_in, pointer_block, word_beginning, ref_in, next_ref, range_in, resolve_from}
use Rattle.rb_rel.specs.Reading.{LeadsTo}
use Rattle.rb_rel.proofs.Parts.{IsTidyLeaf}
use Rattle.rb_rel.proofs.Reading.{chosen, block_in-is, word_beginning-is}

-- a location that goes on, by one more step, through the pointer at which it ends
abbrev pub through : Loc → Step → Loc
through loc s = record loc { steps = loc.steps ++ s ∷ [] }

same_is : (a : ℕ) → (a == a) ≡ true
same_is a = grind (arith, common_steps)

leb_yes : (a b : ℕ) → a ≤ b → leb a b ≡ true
leb_yes a b le = grind (arith, common_steps)

pointed_yes : (p : Part) (align b : ℕ) → p.kind ≡ Pointer align b → pointed_in p p.o p.l align ≡ Some b
pointed_yes p align b is =
    ap (λ t. if t && (p.l == p.l) then pointed_by p.kind align else None) (same_is p.o)
    ∙ ap (λ t. if t then pointed_by p.kind align else None) (same_is p.l)
    ∙ ap (λ k. pointed_by k align) is
    ∙ ap (λ t. if t then Some b else None) (same_is align)

option_or-some : {A : Type 0} (x y : Option A) (b : A) → y ≡ Some b → (c : A) × (option_or x y ≡ Some c)
option_or-some None y b e = (b, e)
option_or-some (Some c) y b e = (c, refl)

block_in-some : (ps : List Part) (k : ℕ) (p : Part) (o l align b : ℕ) → slice_get ps k ≡ Some p → pointed_in p o l align ≡ Some b → (c : ℕ) × (block_in ps o l align ≡ Some c)
block_in-some [] k p o l align b at e = absurd cc
block_in-some (q ∷ ps) zero p o l align b at e =
    let same : q ≡ p = same_Some q p at in
    (b, ap (λ x. option_or (pointed_in x o l align) (block_in ps o l align)) same ∙ ap (λ x. option_or x (block_in ps o l align)) e)
block_in-some (q ∷ ps) (suc k) p o l align b at e =
    let r = block_in-some ps k p o l align b at e in option_or-some (pointed_in q o l align) (block_in ps o l align) r.0 r.1

same_block : (k : Kind) (align b c : ℕ) → k ≡ Pointer align b → k ≡ Pointer align c → c ≡ b
same_block k align b c e h = let s : Pointer align b ≡ Pointer align c = sym e ∙ h in cc

word_beginning-some : (fs : List FlatWord) (j start byte width from : ℕ) (f : FlatWord) → slice_get fs j ≡ Some f → start + begins_at fs j ≡ byte → f.width ≡ width → (c : ℕ) × (word_beginning fs start byte width from ≡ Some c)
word_beginning-some [] j start byte width from f at here wide = absurd cc
word_beginning-some (g ∷ fs) zero start byte width from f at here wide =
    let same : g ≡ f = same_Some g f at in
    let e1 : start ≡ byte = omega (arith, here) in
    let e2 : g.width ≡ width = ap (λ (x : FlatWord). x.width) same ∙ wide in
    let rest = word_beginning fs (start + g.width / 8) byte width (from + 1) in (
      from,
      ap (λ t. if t && (g.width == width) then Some from else rest) (ap (λ n. start == n) (sym e1) ∙ same_is start)
          ∙ ap (λ t. if t then Some from else rest) (ap (λ n. g.width == n) (sym e2) ∙ same_is g.width),
    )
word_beginning-some (g ∷ fs) (suc j) start byte width from f at here wide =
    go ((start == byte) && (g.width == width)) (word_beginning-some fs j (start + g.width / 8) byte width (from + 1) f at (omega (arith, here)) wide)
  where
    go : (t : Bool) → (c : ℕ) × (word_beginning fs (start + g.width / 8) byte width (from + 1) ≡ Some c) → (c : ℕ) × ((if t then Some from else word_beginning fs (start + g.width / 8) byte width (from + 1)) ≡ Some c)
    go true r = (from, refl)
    go false r = r

-- words with bytes begin apart
begins-same : (fs : List FlatWord) (i j : ℕ) (f g : FlatWord) → ((k : ℕ) (x : FlatWord) → slice_get fs k ≡ Some x → 1 ≤ x.width / 8) → slice_get fs i ≡ Some f → slice_get fs j ≡ Some g → begins_at fs i ≡ begins_at fs j → i ≡ j
begins-same [] i j f g some at1 at2 e = absurd cc
begins-same (x ∷ fs) zero zero f g some at1 at2 e = refl
begins-same (x ∷ fs) zero (suc j) f g some at1 at2 e = absurd (let h = some 0 x refl in omega (arith, h, e))
begins-same (x ∷ fs) (suc i) zero f g some at1 at2 e = absurd (let h = some 0 x refl in omega (arith, h, e))
begins-same (x ∷ fs) (suc i) (suc j) f g some at1 at2 e = ap suc (begins-same fs i j f g (λ k y at. some (suc k) y at) at1 at2 (omega (arith, e)))

module _ (leaf : Leaf) where
  in_range : (f : FlatWord) (r : WordRef) (o l : ℕ) → 1 ≤ l → o + l ≤ f.width → range_in (Some f) r o l ≡ Some (record { ref = r; word = f; o = o; l = l })
  in_range f r o l some le =
      let x : Reached = record { ref = r; word = f; o = o; l = l } in
      ap (λ t. if t && leb (o + l) f.width then Some x else None) (leb_yes 1 l some) ∙ ap (λ t. if t then Some x else None) (leb_yes (o + l) f.width le)

  -- where a location resolves, its flat word is the leaf's, and one more step goes on from there
  pub resolve_more : (steps : List Step) (r : Option WordRef) (o l : ℕ) (s : Step) (x : Reached) → resolve_from leaf r o l steps ≡ Some x
      → (flat_at leaf x.ref ≡ Some x.word) × (resolve_from leaf r o l (steps ++ s ∷ []) ≡ resolve_from leaf (next_ref leaf (block_in x.word.parts x.o x.l s.align) s) s.o s.l [])
  resolve_more steps None o l s x e = absurd cc
  resolve_more [] (Some r) o l s x e = go (flat_at leaf r) refl e
    where
      go : (y : Option FlatWord) → flat_at leaf r ≡ y → range_in y r o l ≡ Some x
          → (flat_at leaf x.ref ≡ Some x.word) × (resolve_from leaf (Some r) o l (s ∷ []) ≡ resolve_from leaf (next_ref leaf (block_in x.word.parts x.o x.l s.align) s) s.o s.l [])
      go None is h = absurd cc
      go (Some f) is h =
          let c = chosen (leb 1 l && leb (o + l) f.width) (record { ref = r; word = f; o = o; l = l }) x h in
          subst (λ (z : Reached). (flat_at leaf z.ref ≡ Some z.word) × (resolve_from leaf (Some r) o l (s ∷ []) ≡ resolve_from leaf (next_ref leaf (block_in z.word.parts z.o z.l s.align) s) s.o s.l [])) c.1
          (is, ap (λ y. resolve_from leaf (next_ref leaf (pointer_block y o l s.align) s) s.o s.l []) is)
  resolve_more (t ∷ steps) (Some r) o l s x e = resolve_more steps (next_ref leaf (pointer_block (flat_at leaf r) o l t.align) t) t.o t.l s x e

  module _ (tidy : IsTidyLeaf leaf) where
    -- a part of a root word
    pub leads_root : (j : ℕ) (f : FlatWord) (k : ℕ) (p : Part) → slice_get leaf.root j ≡ Some f → slice_get f.parts k ≡ Some p
        → let loc : Loc = record { word = j; o = p.o; l = p.l; steps = [] } in LeadsTo leaf loc p.l p.kind
    leads_root j f k p at is =
        let r : WordRef = record { block = None; word = j } in
        let w = tidy.within r f k p at is in
        record {
          reached = record { ref = r; word = f; o = p.o; l = p.l };
          resolves = ap (λ y. range_in y r p.o p.l) at ∙ in_range f r p.o p.l w.0 w.1;
          number = k;
          part = p;
          is_part = is;
          first = refl;
          long = refl;
          bits = refl;
          is_kind = refl;
        }

    -- a part of a word of the block to which a location leads
    pub leads_block : (loc : Loc) (l align b : ℕ) → LeadsTo leaf loc l (Pointer align b) → (j : ℕ) (f : FlatWord) (k : ℕ) (p : Part) → slice_get (words_in leaf (Some b)) j ≡ Some f → slice_get f.parts k ≡ Some p
        → let s : Step = record { align = align; byte = begins_at (words_in leaf (Some b)) j; width = f.width; o = p.o; l = p.l } in LeadsTo leaf (through loc s) p.l p.kind
    leads_block loc l align b at j f k p is_word is_part =
        let fs = words_in leaf (Some b) in
        let s : Step = record { align = align; byte = begins_at fs j; width = f.width; o = p.o; l = p.l } in
        let r : WordRef = record { block = Some b; word = j } in
        let x = at.reached in
        let m = resolve_more loc.steps (Some (record { block = None; word = loc.word })) loc.o loc.l s x at.resolves in
        let q = at.part in
        -- the pointer part is found
        let yes : pointed_in q x.o x.l align ≡ Some b = ap (λ o. pointed_in q o x.l align) (sym at.first) ∙ ap (λ n. pointed_in q q.o n align) (sym at.long) ∙ pointed_yes q align b at.is_kind in
        let c = block_in-some x.word.parts at.number q x.o x.l align b at.is_part yes in
        let d = block_in-is x.word.parts x.o x.l align c.0 c.1 in
        let one : d.part ≡ q = tidy.apart x.ref x.word d.number at.number d.part q m.0 d.is_part at.is_part (d.first ∙ sym at.first) in
        let block : block_in x.word.parts x.o x.l align ≡ Some b = c.1 ∙ ap Some (same_block q.kind align b c.0 at.is_kind (ap (λ (y : Part). y.kind) (sym one) ∙ d.is_kind)) in
        -- the word is found
        let here : 0 + begins_at fs j ≡ begins_at fs j = omega arith in
        let e = word_beginning-some fs j 0 (begins_at fs j) f.width 0 f is_word here refl in
        let g = word_beginning-is fs 0 (begins_at fs j) f.width 0 e.0 e.1 in
        let begins : begins_at fs g.number ≡ begins_at fs j = (let z = g.is_byte in omega (arith, z)) in
        let same : g.number ≡ j = begins-same fs g.number j g.word f (λ i y h. tidy.bytes b i y h) g.is_word is_word begins in
        let word : word_beginning fs 0 (begins_at fs j) f.width 0 ≡ Some j = e.1 ∙ ap Some (let z = g.is_number in omega (arith, z, same)) in
        let w = tidy.within r f k p is_word is_part in
        record {
          reached = record { ref = r; word = f; o = p.o; l = p.l };
          resolves = m.1 ∙ ap (λ y. resolve_from leaf (next_ref leaf y s) p.o p.l []) block ∙ ap (λ y. resolve_from leaf (ref_in b y) p.o p.l []) word ∙ ap (λ y. range_in y r p.o p.l) is_word ∙ in_range f r p.o p.l w.0 w.1;
          number = k;
          part = p;
          is_part = is_part;
          first = refl;
          long = refl;
          bits = refl;
          is_kind = refl;
        }
