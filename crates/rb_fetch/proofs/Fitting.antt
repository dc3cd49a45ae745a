-- Locations that resolve in leaves of layouts that agree can be read by instructions, and what is read there is the bits.
use Rattle.std.proofs.Common.{◌≡◌, ℕ, zero, suc, ◌+◌, ◌*◌, ◌/◌, ◌<◌, ◌≤◌, ◌&&◌, inl, inr, List, [], ◌∷◌, length, Bool, Option, Some, None, Result, Ok, refl, sym, subst, ap, ◌∙◌, arith}
use Rattle.std.specs.Prelude.{slice_get, slice_index, leb, take, nat_lt}
use Rattle.std.proofs.lemmas.Option.{same_Some, slice_get_within}
use Rattle.rb_bits.specs.Words.{IsRange, take_of}
use Rattle.rb_bytes.specs.Memory.{Memory, IsGood, IsWidth, load_of}
use Rattle.rb_bytes.specs.declared.fault.Trap.{Trap}
use Rattle.rb_core.specs.declared.layout_decl.Loc.{Loc}
use Rattle.rb_core.specs.declared.layout_decl.Step.{Step}
use Rattle.rb_core.specs.declared.program.Program.{Program}
use Rattle.rb_core.specs.TypedPrograms.{IsTyped}
use Rattle.rb_layout.specs.declared.layout.Layout.{Layout}
use Rattle.rb_layout.specs.declared.layout.Leaf.{Leaf}
use Rattle.rb_layout.specs.declared.layout.Block.{Block}
use Rattle.rb_layout.specs.declared.layout.FlatWord.{FlatWord}
use Rattle.rb_layout.specs.declared.layout.WordRef.{WordRef}
use Rattle.rb_core.specs.declared.layout_decl.LayoutDecl.{LayoutDecl}
use Rattle.rb_core.specs.Layouts.{provenances, is_short_layout}
use Rattle.rb_core.specs.WellNumbered.{layout_is_numbered, provenance_is_numbered, is_between}
use Rattle.rb_core.proofs.MatchingLemmas.{all_at}
use Rattle.std.proofs.lemmas.Bool.Decides.{nat_tests}
use Rattle.std.specs.List.{list_all}
use Rattle.std.proofs.lemmas.Bool.{and_parts}
use Rattle.rb_layout.specs.A1.{A1, HasShape}
use Rattle.rb_layout.specs.A2.{widths_of}
use Rattle.rb_layout.specs.A4.{IsBlockWidth, HasBlocks}
use Rattle.rb_layout.specs.Agreement.{Agrees}
use Rattle.rb_layout.specs.Flattening.{decl_of, flat_layouts}
use Rattle.rb_layout.specs.Locations.{Reached, block_in, pointer_block, word_beginning, ref_in, next_ref, range_in, resolve_from, reached_at}
use Rattle.rb_layout.specs.Positions.{layout_of}
use Rattle.rb_layout.specs.Words.{words_in, words_of_block, flat_at, begins_at, bytes_taken}
use Rattle.rb_rel.specs.Relation.{IsFound}
use Rattle.rb_rel.proofs.Declared.{declared, decl_at}
use Rattle.rb_rel.proofs.Lists.{get-mapped}
use Rattle.rb_rel.proofs.Parts.{IsTidyLeaf}
use Rattle.rb_rel.proofs.Reading.{chosen, leb_is, block_in-is, word_beginning-is, reads_loc}
use Rattle.rb_rel.proofs.Tidy.{tidy_leaves}
use Rattle.rb_target.specs.Meaning.{slots_at}
use Rattle.rb_target.specs.Sheet.{Sheet}
use Rattle.rb_fragment.specs.Plan.{Plan}
use Rattle.rb_fragment.proofs.Pieces.{straight_weaken}
use Rattle.rb_fetch.specs.Fetching.{StepsFit, LocFits, IsReadAt, AreBitsAt, FetchesLoc, FetchesBits}

-- what resolving needs of a leaf: its words are short, and its parts lie in them
pub record IsReadable (leaf : Leaf) : Type 0 where
  pub tidy : IsTidyLeaf leaf
  pub blocks : HasBlocks leaf
  pub root : (j : ℕ) (f : FlatWord) → slice_get leaf.root j ≡ Some f → f.width ≤ 64

pub width_low : (w : ℕ) → IsBlockWidth w → w ≤ 64
width_low w (inl e) = omega (arith, e)
width_low w (inr (inl e)) = omega (arith, e)
width_low w (inr (inr (inl e))) = omega (arith, e)
width_low w (inr (inr (inr e))) = omega (arith, e)

width_bytes : (w : ℕ) → IsBlockWidth w → w / 8 ≤ 8
width_bytes w (inl e) = omega (arith, e)
width_bytes w (inr (inl e)) = omega (arith, e)
width_bytes w (inr (inr (inl e))) = omega (arith, e)
width_bytes w (inr (inr (inr e))) = omega (arith, e)

-- word j of short words begins at 8 * j at most
begins_low : (fs : List FlatWord) (j : ℕ) → ((k : ℕ) (f : FlatWord) → slice_get fs k ≡ Some f → IsBlockWidth f.width) → bytes_taken (take j fs) ≤ 8 * j
begins_low fs zero wide = omega arith
begins_low [] (suc j) wide = omega arith
begins_low (f ∷ fs) (suc j) wide =
    let h = width_bytes f.width (wide 0 f refl) in
    let r = begins_low fs j (λ k g e. wide (suc k) g e) in omega (arith, h, r)

module _ (leaf : Leaf) (ok : IsReadable leaf) where
  short : (b : Option ℕ) (j : ℕ) (f : FlatWord) → slice_get (words_in leaf b) j ≡ Some f → f.width ≤ 64
  short None j f e = ok.root j f e
  short (Some b) j f e = inner (slice_get leaf.blocks b) refl e
    where
      inner : (x : Option Block) → slice_get leaf.blocks b ≡ x → slice_get (words_of_block x) j ≡ Some f → f.width ≤ 64
      inner None is h = absurd cc
      inner (Some block) is h = width_low f.width (ok.blocks.widths b block j f is h)

  -- a word of a block begins below byte 512
  word_low : (b j : ℕ) (f : FlatWord) → slice_get (words_in leaf (Some b)) j ≡ Some f → IsBlockWidth f.width × (begins_at (words_in leaf (Some b)) j ≤ 511)
  word_low b j f e = inner (slice_get leaf.blocks b) refl e
    where
      inner : (x : Option Block) → slice_get leaf.blocks b ≡ x → slice_get (words_of_block x) j ≡ Some f → IsBlockWidth f.width × (begins_at (words_of_block x) j ≤ 511)
      inner None is h = absurd cc
      inner (Some block) is h =
          let few = (ok.blocks.lengths b block is).1 in
          let lt = slice_get_within block.words j f h in
          let low = begins_low block.words j (λ k g e1. ok.blocks.widths b block k g is e1) in
          (ok.blocks.widths b block j f is h, omega (arith, few, lt, low))

  abbrev Fits : List Step → ℕ → ℕ → Type 0
  Fits steps o l = (r : WordRef) (x : Reached) → resolve_from leaf (Some r) o l steps ≡ Some x → StepsFit o l steps

  last_fits : (o l : ℕ) → Fits [] o l
  last_fits o l r x e = go (flat_at leaf r) refl e
    where
      go : (y : Option FlatWord) → flat_at leaf r ≡ y → range_in y r o l ≡ Some x → IsRange o l
      go None is h = absurd cc
      go (Some f) is h =
          let c = chosen (leb 1 l && leb (o + l) f.width) (record { ref = r; word = f; o = o; l = l }) x h in
          let b = and_parts (leb 1 l) (leb (o + l) f.width) c.0 in
          let low = leb_is 1 l b.0 in
          let high = leb_is (o + l) f.width b.1 in
          let wide = short r.block r.word f is in
          (low, omega (arith, high, wide))

  step_fits : (t : Step) (steps : List Step) (o l : ℕ) → Fits steps t.o t.l → Fits (t ∷ steps) o l
  step_fits t steps o l rest r x e = at_flat (flat_at leaf r) refl e
    where
      at_word : (f : FlatWord) → flat_at leaf r ≡ Some f → (b : ℕ) → block_in f.parts o l t.align ≡ Some b → (found : Option ℕ) → word_beginning (words_in leaf (Some b)) 0 t.byte t.width 0 ≡ found
          → resolve_from leaf (ref_in b found) t.o t.l steps ≡ Some x → StepsFit o l (t ∷ steps)
      at_word f is b block None at h = absurd cc
      at_word f is b block (Some j) at h =
          let p = block_in-is f.parts o l t.align b block in
          let w = ok.tidy.within r f p.number p.part is p.is_part in
          let wide = short r.block r.word f is in
          let range : IsRange o l = (omega (arith, w.0, p.long), omega (arith, w.1, p.first, p.long, wide)) in
          let g = word_beginning-is (words_in leaf (Some b)) 0 t.byte t.width 0 j at in
          let low = word_low b g.number g.word g.is_word in
          let byte : t.byte ≤ 511 = (let z = g.is_byte in omega (arith, z, low.1)) in
          (range, byte, subst IsWidth g.is_width low.0, rest (record { block = Some b; word = j }) x h)

      at_block : (f : FlatWord) → flat_at leaf r ≡ Some f → (found : Option ℕ) → block_in f.parts o l t.align ≡ found → resolve_from leaf (next_ref leaf found t) t.o t.l steps ≡ Some x → StepsFit o l (t ∷ steps)
      at_block f is None block h = absurd cc
      at_block f is (Some b) block h = at_word f is b block (word_beginning (words_in leaf (Some b)) 0 t.byte t.width 0) refl h

      at_flat : (y : Option FlatWord) → flat_at leaf r ≡ y → resolve_from leaf (next_ref leaf (pointer_block y o l t.align) t) t.o t.l steps ≡ Some x → StepsFit o l (t ∷ steps)
      at_flat None is h = absurd cc
      at_flat (Some f) is h = at_block f is (block_in f.parts o l t.align) refl h

  steps_fit : (steps : List Step) (o l : ℕ) → Fits steps o l
  steps_fit [] o l = last_fits o l
  steps_fit (t ∷ steps) o l = step_fits t steps o l (steps_fit steps t.o t.l)

  -- a location that resolves can be read, from one of the root words
  pub resolved_fits : (loc : Loc) (x : Reached) → reached_at leaf loc ≡ Some x → LocFits loc × (loc.word < length leaf.root)
  resolved_fits loc x e = (steps_fit loc.steps loc.o loc.l (record { block = None; word = loc.word }) x e, at_root (slice_get leaf.root loc.word) refl loc.steps e)
    where
      at_root : (y : Option FlatWord) → slice_get leaf.root loc.word ≡ y → (steps : List Step) → resolve_from leaf (Some (record { block = None; word = loc.word })) loc.o loc.l steps ≡ Some x → loc.word < length leaf.root
      at_root None is [] h = absurd (let z = ap (λ y. range_in y (record { block = None; word = loc.word }) loc.o loc.l) (sym is) ∙ h in cc)
      at_root None is (t ∷ steps) h = absurd (let z = ap (λ y. resolve_from leaf (next_ref leaf (pointer_block y loc.o loc.l t.align) t) t.o t.l steps) (sym is) ∙ h in cc)
      at_root (Some f) is steps h = slice_get_within leaf.root loc.word f is

-- a word of a shape has at most 64 bits
shape_short : (p : Program) → IsTyped p → A1 p → (t : ℕ) (d : LayoutDecl) → decl_of p.layouts t ≡ Some d → (j w : ℕ) → slice_get d.shape j ≡ Some w → w ≤ 64
shape_short p typed a1 t d is j w e =
    let at = decl_at p.layouts t d is in
    let a = all_at (layout_is_numbered p.types) p.layouts at.0 d typed.numbered.layouts at.1 in
    let b = and_parts (nat_lt d.ty (length p.types)) (is_between 1 8 (length d.shape) && (list_all (provenance_is_numbered p.types) (provenances d.tree) && is_short_layout d.tree)) a in
    let lt : d.ty < length p.types = (let h = b.0 in grind (arith, nat_tests, h)) in
    let here : t < length p.types = omega (arith, lt, at.2) in
    low (decl_of p.layouts t) is (a1 t here)
  where
    low : (o : Option LayoutDecl) → o ≡ Some d → HasShape o → w ≤ 64
    low None same h = absurd cc
    low (Some x) same h = (h j w (ap (λ (y : LayoutDecl). slice_get y.shape j) (same_Some x d same) ∙ e)).1

-- leaves of layouts that agree are such
module _ (p : Program) (typed : IsTyped p) (agrees : Agrees p) (t : ℕ) (layout : Layout) (n : ℕ) (leaf : Leaf) (is : layout_of (flat_layouts p) t ≡ Some layout) (at : slice_get layout.leaves n ≡ Some leaf) where
  pub root_widths : widths_of leaf.root ≡ layout.shape
  root_widths = agrees.a2 t layout n leaf is at

  root_short : (j : ℕ) (f : FlatWord) → slice_get leaf.root j ≡ Some f → f.width ≤ 64
  root_short j f e =
      let d = declared p agrees.a1 t layout is in
      let w : slice_get d.decl.shape j ≡ Some f.width = ap (λ xs. slice_get xs j) (sym (root_widths ∙ ap (λ (y : Layout). y.shape) d.is_flat)) ∙ get-mapped (λ (g : FlatWord). g.width) leaf.root j f e in
      shape_short p typed agrees.a1 t d.decl d.is_declared j f.width w

  pub readable_leaf : IsReadable leaf
  readable_leaf = record { tidy = tidy_leaves p typed agrees t layout n leaf is at; blocks = agrees.a4 t layout n leaf is at; root = root_short }

-- What stands there

-- one word stands at a place
stands_once : (leaf : Leaf) (ws : List ℕ) (m : Memory) (clean : Bool) (subs : List ℕ → List ℕ) (ats : ℕ → ℕ) (r : WordRef) (f : FlatWord) (x y : ℕ)
    → IsFound r.block (words_in leaf r.block) f r.word ws ats m x → IsFound r.block (words_in leaf r.block) f r.word ws ats m y → x ≡ y
stands_once leaf ws m clean subs ats r f x y = go r.block
  where
    same_Ok : (a b : ℕ) (q : Result ℕ Trap) → q ≡ Ok a → q ≡ Ok b → a ≡ b
    same_Ok a b q e h = let z : ◌≡◌ {A = Result ℕ Trap} (Ok a) (Ok b) = sym e ∙ h in cc

    go : (b : Option ℕ) → IsFound b (words_in leaf b) f r.word ws ats m x → IsFound b (words_in leaf b) f r.word ws ats m y → x ≡ y
    go None e h = same_Some x y (sym e ∙ h)
    go (Some b) e h = same_Ok x y (load_of m (ats b) (begins_at (words_in leaf (Some b)) r.word) f.width) e h

-- the bits at a location are what is read there
pub bits_read : (plan : Plan) (t : ℕ) (loc : Loc) (ws : List ℕ) (m : Memory) (bits : ℕ) → AreBitsAt plan t loc ws m bits → IsReadAt loc ws m bits
bits_read plan t loc ws m bits a =
    let b = a.made in
    let r = reads_loc b.leaf ws m a.clean b.subs b.ats b.placed loc a.reached a.resolves in
    let same = stands_once b.leaf ws m a.clean b.subs b.ats a.reached.ref a.reached.word r.found a.found r.stands.is_found a.stands.is_found in
    r.is_read ∙ ap (λ k. Some (take_of k a.reached.o a.reached.l)) same ∙ ap Some (sym a.are_bits)

-- code that reads a location fetches the bits there
pub fetches_bits : (words : List ℕ) (loc : Loc) (old new : Sheet) (slot : ℕ) → FetchesLoc words loc old new slot → FetchesBits words loc old new slot
fetches_bits words loc old new slot fetches plan sound all u n layout leaf x is at count resolves t =
    let e = sound.agreed.0 in
    let is1 : layout_of (flat_layouts plan.program) u ≡ Some layout = ap (λ ls. layout_of ls u) (sym e) ∙ is in
    let ok = readable_leaf plan.program sound.typed sound.agreed.1 u layout n leaf is1 at in
    let f = resolved_fits leaf ok loc x resolves in
    let made = fetches plan all (omega (arith, f.1, count)) f.0 in
    record {
      adds = made.adds;
      given = made.given;
      runs = λ bits.
          straight_weaken plan old.slots old new (λ s m. IsGood m × IsReadAt loc (slots_at s words) m bits) (λ s m. IsGood m × AreBitsAt plan t loc (slots_at s words) m bits) (λ s m. slice_index s slot ≡ bits) (λ s m. slice_index s slot ≡ bits)
          (λ s m pre. (pre.0, bits_read plan t loc (slots_at s words) m bits pre.1)) (λ s m p. p) (made.runs bits);
    }
