-- A value whose subvalues at the open positions of its leaf are represented is represented, in a memory with
-- its own blocks more; and cleanly, where they are.
use Rattle.std.proofs.Common.{◌≡◌, ℕ, zero, suc, ◌+◌, ◌-◌, ◌*◌, ◌/◌, ◌^◌, ◌<◌, ◌≤◌, inl, inr, length, map, List, [], ◌∷◌, Bool, true, false, Option, Some, None, Ok, refl, sym, subst, ap, ◌∙◌, arith}
use Rattle.std.specs.Prelude.{slice_get, slice_index, if◌then◌else◌}
use Rattle.std.proofs.lemmas.Option.{same_Some, get_or_from_slice_get}
use Rattle.std.proofs.lemmas.List.{length-map}
use Rattle.std.proofs.lemmas.Nat.{pow-add, pow_pos}
use Rattle.std.proofs.Math.Pow.{shr_lt}
use Rattle.std.proofs.Math.Nat.{mul-div_cancel}
use Rattle.rb_core.specs.declared.value.Value.{Value}
use Rattle.rb_core.specs.declared.types.Ty.{Ty}
use Rattle.rb_core.specs.declared.types.Ty.TheVariants.{Int, Named}
use Rattle.rb_core.specs.declared.program.Program.{Program}
use Rattle.rb_core.specs.TypedPrograms.{IsTyped}
use Rattle.rb_core.specs.Values.{part_at}
use Rattle.rb_bits.proofs.WordLemmas.{take_fits}
use Rattle.rb_bytes.specs.Memory.{Memory, IsGood, size_at, load_of, least_multiple}
use Rattle.rb_bytes.proofs.GrowthLemmas.{Grown-extends}
use Rattle.rb_layout.specs.declared.layout.Leaf.{Leaf}
use Rattle.rb_layout.specs.declared.layout.Block.{Block}
use Rattle.rb_layout.specs.declared.layout.FlatWord.{FlatWord}
use Rattle.rb_layout.specs.declared.layout.Part.{Part}
use Rattle.rb_layout.specs.declared.layout.Kind.{Kind}
use Rattle.rb_layout.specs.declared.layout.Kind.TheVariants.{Const, Bits, Word, Pointer}
use Rattle.rb_layout.specs.declared.layout.Layout.{Layout}
use Rattle.rb_layout.specs.declared.layout.WordRef.{WordRef}
use Rattle.rb_layout.specs.Agreement.{Agrees}
use Rattle.rb_layout.specs.A2.{widths_of}
use Rattle.rb_layout.specs.A4.{IsBlockWidth, IsAlignment}
use Rattle.rb_layout.specs.Flattening.{type_at, same_path, shape_of, shape_in, flat_layouts, flat_leaf}
use Rattle.rb_layout.specs.Items.{item_lists, items_in, leaves_in, items_of}
use Rattle.rb_layout.specs.Pointers.{PointsTo}
use Rattle.rb_layout.specs.Positions.{Open, open_positions, root_type, leaf_of, layout_of}
use Rattle.rb_layout.specs.Words.{words_in, words_of_block, flat_at, begins_at, bytes_taken}
use Rattle.rb_rel.specs.Placing.{Fits, Request, request_of, lay}
use Rattle.rb_rel.specs.Relation.{IsFound, WordHolds, LeafStands, Represents, built}
use Rattle.rb_layout.specs.Flat.{IsFlat}
use Rattle.rb_rel.proofs.Agreeing.{from_written, lawful}
use Rattle.rb_rel.proofs.Declared.{declared}
use Rattle.rb_rel.proofs.Fitting.{KindFits, WordFits, AllFit, BlocksFit, Demands, leaf_fits}
use Rattle.rb_rel.proofs.Growth.{Represents-kept}
use Rattle.rb_rel.proofs.Holding.{path_is}
use Rattle.rb_rel.proofs.Lists.{get-map, get-mapped}
use Rattle.rb_rel.proofs.Packing.{packed, CanHold, packed_holds}
use Rattle.rb_rel.specs.Storing.{address_at, number_of}
use Rattle.rb_rel.proofs.Represented.{opened}
use Rattle.rb_rel.proofs.Widths.{positions_typed, int_wide, shape_wide}
use Rattle.rb_core.specs.WellNumbered.{is_type}
use Rattle.rb_core.specs.declared.pattern.Pat.{out-Pat}
use Rattle.rb_rel.proofs.Storing.{IsBlock, AllStored, all_stored, laid_more}

pub address_is : (bs : List (ℕ × ℕ)) (b : ℕ) (at : ℕ × ℕ) → slice_get bs b ≡ Some at → address_at bs b ≡ at.0
address_is [] b at e = absurd cc
address_is (x ∷ xs) zero at e = ap (λ (y : ℕ × ℕ). y.0) (same_Some x at e)
address_is (x ∷ xs) (suc b) at e = address_is xs b at e

-- a block that is laid begins at a multiple of its alignment, and ends within the limit
pub record LaidAt (limit : ℕ) (r : Request) (a : ℕ) : Type 0 where
  pub times : ℕ
  pub multiple : a ≡ times * r.align
  pub within : a + r.size ≤ limit

laid_at : (limit next : ℕ) (rs : List Request) (bs : List (ℕ × ℕ)) (p : ℕ) → lay limit next rs ≡ Fits bs p → (b : ℕ) (r : Request) → slice_get rs b ≡ Some r → LaidAt limit r (address_at bs b)
laid_at limit next [] bs p e b r is = absurd cc
laid_at limit next (q ∷ rs) bs p e zero r is =
    let l = laid_more (λ f. 0) limit next q rs bs p e in
    let x : LaidAt limit q (least_multiple next q.align) = record { times = (next + (q.align - 1)) / q.align; multiple = refl; within = l.0 } in
    subst (λ (y : Request). LaidAt limit y (address_at bs 0)) (same_Some q r is) (subst (λ cs. LaidAt limit q (address_at cs 0)) (sym l.3) x)
laid_at limit next (q ∷ rs) bs p e (suc b) r is =
    let l = laid_more (λ f. 0) limit next q rs bs p e in
    subst (λ cs. LaidAt limit r (address_at cs (suc b))) (sym l.3) (laid_at limit (least_multiple next q.align + q.size) rs l.1 p l.2 b r is)

-- the open position at a path
pub open_of : (os : List Open) (path : List ℕ) (ty : Ty) → type_at os path ≡ Some ty → (k : ℕ) × (o : Open) × (slice_get os k ≡ Some o) × (o.path ≡ path) × (o.ty ≡ ty)
open_of [] path ty e = absurd cc
open_of (o ∷ os) path ty e = here (same_path o.path path) refl (open_of os path ty) e
  where
    here : (b : Bool) → same_path o.path path ≡ b → (type_at os path ≡ Some ty → (k : ℕ) × (x : Open) × (slice_get os k ≡ Some x) × (x.path ≡ path) × (x.ty ≡ ty))
        → (if b then Some o.ty else type_at os path) ≡ Some ty → (k : ℕ) × (x : Open) × (slice_get (o ∷ os) k ≡ Some x) × (x.path ≡ path) × (x.ty ≡ ty)
    here true is rest h = (0, o, refl, path_is o.path path is, same_Some o.ty ty h)
    here false is rest h = let r = rest h in (suc r.0, r.1, r.2, r.3, r.4)

module _ (p : Program) (agrees : Agrees p) where
  abbrev layouts : List Layout
  layouts = flat_layouts p

  abbrev Shown : Bool → Memory → Ty → Value → List ℕ → Type 0
  Shown clean m = Represents p.types layouts m clean

  -- words of a represented value are of their widths
  shown_fits : (clean : Bool) (m : Memory) (s : ℕ) (u : Value) (ws : List ℕ) → Shown clean m (Named s) u ws → (j l : ℕ) → slice_get (shape_of p.layouts s) j ≡ Some l → slice_index ws j < 2 ^ l
  shown_fits clean m s u ws r j l is =
      let o = opened p.types layouts m clean r in
      let b = o.made in
      let d = declared p agrees.a1 s b.layout b.is_layout in
      let shape : shape_of p.layouts s ≡ b.layout.shape = ap shape_in d.is_declared ∙ sym (ap (λ (y : Layout). y.shape) d.is_flat) in
      let widths : widths_of b.leaf.root ≡ b.layout.shape = agrees.a2 s b.layout b.number b.leaf b.is_layout b.is_number in
      let g = get-map (λ (f : FlatWord). f.width) b.leaf.root j l (ap (λ xs. slice_get xs j) (widths ∙ sym shape) ∙ is) in
      let w = b.placed.words (record { block = None; word = j }) g.0 g.1 in
      let fits = w.2.fits in
      let e : slice_index ws j ≡ w.0 = get_or_from_slice_get ws j w.0 0 w.1 in
      subst (λ k. slice_index ws j < 2 ^ k) (sym g.2) (subst (λ x. x < 2 ^ g.0.width) (sym e) fits)

  -- what agreement says of a leaf
  pub record Sound (leaf : Leaf) : Type 0 where
    pub flat : IsFlat leaf
    pub root : AllFit p.layouts (open_positions p.types leaf.prov) leaf.root
    pub inner : BlocksFit p.layouts (open_positions p.types leaf.prov) leaf.blocks
    pub are : (b : ℕ) (block : Block) → slice_get leaf.blocks b ≡ Some block → IsBlock block

  abbrev LeafFits : Leaf → Type 0
  LeafFits leaf = AllFit p.layouts (open_positions p.types leaf.prov) leaf.root × BlocksFit p.layouts (open_positions p.types leaf.prov) leaf.blocks

  align_some : (align : ℕ) → IsAlignment align → 0 < align
  align_some align a = let q = pow_pos a.0 in omega (arith, q, a.2)

  width_some : (w : ℕ) → IsBlockWidth w → 0 < w / 8
  width_some w (inl e) = omega (arith, e)
  width_some w (inr (inl e)) = omega (arith, e)
  width_some w (inr (inr (inl e))) = omega (arith, e)
  width_some w (inr (inr (inr e))) = omega (arith, e)

  size_some : (fs : List FlatWord) → 1 ≤ length fs → ((j : ℕ) (f : FlatWord) → slice_get fs j ≡ Some f → IsBlockWidth f.width) → 0 < bytes_taken fs
  size_some [] le wide = absurd (omega (arith, le))
  size_some (f ∷ fs) le wide = let w = width_some f.width (wide 0 f refl) in omega (arith, w)

  pub sound : (t : ℕ) (layout : Layout) (n : ℕ) (leaf : Leaf) → IsTyped p → layout_of layouts t ≡ Some layout → slice_get layout.leaves n ≡ Some leaf → Sound leaf
  sound t layout n leaf typed is at =
      let w = from_written p agrees t layout n leaf is at in
      let items : items_of p.layouts t n ≡ item_lists w.written.items = ap (λ d. items_in (slice_get (leaves_in d) n)) w.decl.is_declared ∙ ap items_in w.is_written in
      let d0 : Demands p.layouts (open_positions p.types leaf.prov) (items_of p.layouts t n) = agrees.a3 t layout n leaf is at in
      let d1 = subst (λ its. Demands p.layouts (open_positions p.types leaf.prov) its) items d0 in
      let d2 = subst (λ (y : Leaf). Demands p.layouts (open_positions p.types y.prov) (item_lists w.written.items)) w.is_leaf d1 in
      let root = (lawful p agrees typed).provenances.root t layout n leaf is at in
      let prov : root_type (out-Pat w.written.provenance) ≡ Named t = ap (λ (y : Leaf). root_type (out-Pat y.prov)) (sym w.is_leaf) ∙ root in
      let ints : (path : List ℕ) (bits : ℕ) → type_at (open_positions p.types w.written.provenance) path ≡ Some (Int bits) → 1 ≤ bits
      = λ path bits e. (let o = open_of (open_positions p.types w.written.provenance) path (Int bits) e in
      int_wide p.types typed.numbered.types bits (ap (is_type p.types) (sym o.4) ∙ positions_typed p.types typed.numbered.types w.written.provenance t prov o.0 o.1 o.2)) in
      let f : LeafFits (flat_leaf p.types p.layouts w.written) = leaf_fits p.layouts (open_positions p.types w.written.provenance) ints (shape_wide p typed agrees.a1) w.written.items d2 in
      let fits : LeafFits leaf = subst LeafFits (sym w.is_leaf) f in
      let flat = (lawful p agrees typed).flat t layout n leaf is at in
      let a4 = agrees.a4 t layout n leaf is at in
      record {
        flat = flat;
        root = fits.0;
        inner = fits.1;
        are = λ b block h. record {
          some = size_some block.words (a4.lengths b block h).0 (λ j x k. a4.widths b block j x h k);
          widths = λ j x k. a4.widths b block j x h k;
          align = (let q = flat.pointed b block h in align_some block.align (a4.alignments q.0 q.1 block.align b q.2));
        };
      }

  -- One layer ---------------------------------------------------------------------------------
  module _ (clean : Bool) (t : ℕ) (layout : Layout) (n : ℕ) (leaf : Leaf) (ok : Sound leaf) (m : Memory) (good : IsGood m) (subs : List ℕ → List ℕ)
      (reps : (k : ℕ) (o : Open) → slice_get (open_positions p.types leaf.prov) k ≡ Some o → (u : Value) × Shown clean m o.ty u (subs o.path))
      (wide : (r : WordRef) (l align b : ℕ) → PointsTo leaf r l align b → IsAlignment align × ((k : ℕ) → align ≡ 2 ^ k → 24 ≤ l + k))
      (bs : List (ℕ × ℕ)) (next : ℕ) (laid : lay m.limit m.next (map request_of leaf.blocks) ≡ Fits bs next) where
    abbrev pub ats : ℕ → ℕ
    ats = address_at bs

    abbrev pub numbered : FlatWord → ℕ
    numbered f = packed subs ats f.parts

    pub placed_at : (b : ℕ) (block : Block) → slice_get leaf.blocks b ≡ Some block → LaidAt m.limit (request_of block) (ats b)
    placed_at b block is = laid_at m.limit m.next (map request_of leaf.blocks) bs next laid b (request_of block) (get-mapped request_of leaf.blocks b block is)

    small_power : (i : ℕ) → 24 ≤ i → 16777216 ≤ 2 ^ i
    small_power i le =
        let z : 24 + (i - 24) ≡ i = omega (arith, le) in
        let e : 2 ^ i ≡ 16777216 * 2 ^ (i - 24) = ap (λ k. 2 ^ k) (sym z) ∙ pow-add 2 24 (i - 24) in
        let q = pow_pos (i - 24) in omega (arith, e, q)

    word_fits : (path : List ℕ) (j l : ℕ) → KindFits p.layouts (open_positions p.types leaf.prov) l (Word path j) → slice_index (subs path) j < 2 ^ l
    word_fits path j l f =
        let o = open_of (open_positions p.types leaf.prov) path (Named f.0) f.1 in
        let r = reps o.0 o.1 o.2 in
        let shown : Shown clean m (Named f.0) r.0 (subs path) = subst (λ (ty : Ty). Shown clean m ty r.0 (subs path)) o.4 (subst (λ q. Shown clean m o.1.ty r.0 (subs q)) o.3 r.1) in
        shown_fits clean m f.0 r.0 (subs path) shown j l f.2

    pub pointer_fits : (r : WordRef) (l align b : ℕ) → PointsTo leaf r l align b → (ats b / align < 2 ^ l) × (ats b / align * align ≡ ats b)
    pointer_fits r l align b points =
        let x = (ok.flat.below r l align b points).0 in
        let a = placed_at b x.0 x.1 in
        let w = wide r l align b points in
        let k = w.0.0 in
        let some = (ok.are b x.0 x.1).some in
        let limit = good.limit in
        let within = a.within in
        let low : ats b < 16777216 = omega (arith, within, some, limit) in
        let power = small_power (l + k) (w.1 k w.0.2) in
        let fits : ats b < 2 ^ (l + k) = omega (arith, low, power) in
        let same : align ≡ 2 ^ k = w.0.2 in
        let pos = align_some align w.0 in
        let e : ats b ≡ a.times * align = a.multiple ∙ ap (λ i. a.times * i) x.2 in
        let d : ats b / align ≡ a.times = ap (λ i. i / align) e ∙ mul-div_cancel a.times pos in (
          subst (λ i. ats b / i < 2 ^ l) (sym same) (shr_lt l k fits),
          ap (λ i. i * align) d ∙ sym e,
        )

    part_fits : (r : WordRef) (f : FlatWord) (k : ℕ) (q : Part) → flat_at leaf r ≡ Some f → slice_get f.parts k ≡ Some q → (kind : Kind) → q.kind ≡ kind
        → KindFits p.layouts (open_positions p.types leaf.prov) q.l kind → number_of subs ats q.l kind < 2 ^ q.l
    part_fits r f k q is at (Const c) e h = h
    part_fits r f k q is at (Bits path a) e h = take_fits (slice_index (subs path) 0) a q.l
    part_fits r f k q is at (Word path j) e h = word_fits path j q.l h
    part_fits r f k q is at (Pointer align b) e h = (pointer_fits r q.l align b (record { word = f; number = k; part = q; is_word = is; is_part = at; is_length = refl; is_pointer = e })).0

    pub can_hold : (r : WordRef) (f : FlatWord) → flat_at leaf r ≡ Some f → WordFits p.layouts (open_positions p.types leaf.prov) f → CanHold subs ats f.parts
    can_hold r f is w = record {
      fit = λ k q at. part_fits r f k q is at q.kind refl (w.kinds k q at);
      aligned = λ k q at align b e. (pointer_fits r q.l align b (record { word = f; number = k; part = q; is_word = is; is_part = at; is_length = refl; is_pointer = e })).1;
    }

    in_block_fits : (b : ℕ) (x : Option Block) (j : ℕ) (f : FlatWord) → slice_get leaf.blocks b ≡ x → slice_get (words_of_block x) j ≡ Some f → WordFits p.layouts (open_positions p.types leaf.prov) f
    in_block_fits b None j f is e = absurd cc
    in_block_fits b (Some block) j f is e = ok.inner b block is j f e

    pub fits_at : (b : Option ℕ) (j : ℕ) (f : FlatWord) → slice_get (words_in leaf b) j ≡ Some f → WordFits p.layouts (open_positions p.types leaf.prov) f
    fits_at None j f e = ok.root j f e
    fits_at (Some b) j f e = in_block_fits b (slice_get leaf.blocks b) j f refl e

    word_holds : (r : WordRef) (f : FlatWord) → flat_at leaf r ≡ Some f → WordHolds subs ats clean f (numbered f)
    word_holds r f is = let w = fits_at r.block r.word f is in packed_holds subs ats f w.tidy (can_hold r f is w) clean

    pub stored : AllStored numbered m leaf.blocks bs next
    stored = all_stored numbered leaf.blocks ok.are
        (λ b block is j f at. (word_holds (record { block = Some b; word = j }) f (ap (λ x. slice_get (words_of_block x) j) is ∙ at)).fits) m good bs next laid

    abbrev pub made : Memory
    made = stored.memory

    abbrev pub root_words : List ℕ
    root_words = map numbered leaf.root

    found_in : (b : ℕ) (x : Option Block) (j : ℕ) (f : FlatWord) → slice_get leaf.blocks b ≡ x → slice_get (words_of_block x) j ≡ Some f
        → load_of made (ats b) (begins_at (words_of_block x) j) f.width ≡ Ok (numbered f)
    found_in b None j f is e = absurd cc
    found_in b (Some block) j f is e =
        let s = stored.stored b block is in
        ap (λ i. load_of made i (begins_at block.words j) f.width) (address_is bs b s.0 s.1) ∙ s.2.loads j f e

    found_at : (b : Option ℕ) (j : ℕ) (f : FlatWord) → slice_get (words_in leaf b) j ≡ Some f → IsFound b (words_in leaf b) f j root_words ats made (numbered f)
    found_at None j f e = get-mapped numbered leaf.root j f e
    found_at (Some b) j f e = found_in b (slice_get leaf.blocks b) j f refl e

    pub layer_placed : LeafStands leaf root_words made clean subs ats
    layer_placed = record {
      count = length-map leaf.root numbered;
      blocks = λ b block is. let s = stored.stored b block is in ap (λ i. size_at made.blocks i) (address_is bs b s.0 s.1) ∙ s.2.sized;
      words = λ r f is. (numbered f, found_at r.block r.word f is, word_holds r f is);
    }

    pub layer_shown : (v : Value) → layout_of layouts t ≡ Some layout → leaf_of layout v ≡ Some n → slice_get layout.leaves n ≡ Some leaf → (at : List ℕ → Value)
        → ((k : ℕ) (o : Open) → slice_get (open_positions p.types leaf.prov) k ≡ Some o → (part_at v o.path ≡ Some (at o.path)) × Shown clean m o.ty (at o.path) (subs o.path))
        → Shown clean made (Named t) v root_words
    layer_shown v is_layout is_leaf is_number at opens =
        let grows = Grown-extends m made bs next good stored.grown in
        let root : widths_of leaf.root ≡ layout.shape = agrees.a2 t layout n leaf is_layout is_number in
        built t v root_words (record {
          layout = layout;
          number = n;
          leaf = leaf;
          is_layout = is_layout;
          is_leaf = is_leaf;
          is_number = is_number;
          shaped = length-map leaf.root numbered ∙ sym (length-map leaf.root (λ (f : FlatWord). f.width)) ∙ ap length root;
          subs = subs;
          ats = ats;
          at = at;
          is_at = λ k o e. (opens k o e).0;
          placed = layer_placed;
        }) (λ k o e. Represents-kept m made grows p.types layouts clean (opens k o e).1)
