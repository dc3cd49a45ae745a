-- The code of a leaf makes its values.
use Rattle.std.proofs.Common.{◌≡◌, ℕ, zero, suc, ◌+◌, ◌*◌, ◌/◌, ◌%◌, ◌^◌, ◌<◌, ◌≤◌, ◌==◌, ◌&&◌, true, inl, inr, map, List, [], ◌∷◌, length, Bool, Option, Some, None, refl, sym, subst, ap, ◌∙◌, arith}
use Rattle.std.specs.Prelude.{slice_get, slice_index, unwrap_or}
use Rattle.std.proofs.lemmas.Bool.{and_parts}
use Rattle.std.proofs.lemmas.List.{length-map}
use Rattle.std.proofs.Math.Nat.{mod-eq_of_lt}
use Rattle.rb_rel.proofs.Reading.{same_nat}
use Rattle.rb_core.specs.declared.value.Value.{Value}
use Rattle.rb_core.specs.declared.types.Ty.TheVariants.{Int, Named}
use Rattle.rb_core.specs.declared.program.Program.{Program}
use Rattle.rb_core.specs.TypedPrograms.{IsTyped}
use Rattle.rb_core.specs.Values.{part_at}
use Rattle.rb_bytes.specs.Memory.{Memory, IsGood, least_multiple, write_le}
use Rattle.rb_bytes.specs.Growth.{Grown}
use Rattle.rb_target.specs.declared.instr.Instr.{Instr}
use Rattle.rb_target.specs.Laws.{Law}
use Rattle.rb_target.specs.Meaning.{World, Next, Callee, slots_at}
use Rattle.rb_target.specs.Sheet.{Sheet}
use Rattle.rb_layout.specs.declared.layout.Block.{Block}
use Rattle.rb_layout.specs.declared.layout.FlatWord.{FlatWord}
use Rattle.rb_layout.specs.declared.layout.Kind.{Kind}
use Rattle.rb_layout.specs.declared.layout.Kind.TheVariants.{Const, Bits, Word, Pointer}
use Rattle.rb_layout.specs.declared.layout.Layout.{Layout}
use Rattle.rb_layout.specs.declared.layout.Leaf.{Leaf}
use Rattle.rb_layout.specs.declared.layout.Part.{Part}
use Rattle.rb_layout.specs.declared.layout.WordRef.{WordRef}
use Rattle.rb_layout.specs.Agreement.{Agrees}
use Rattle.rb_layout.specs.A4.{IsAlignment}
use Rattle.rb_bits.specs.Words.{put_of, take_of}
use Rattle.rb_layout.specs.Flattening.{flat_layouts, type_at}
use Rattle.rb_layout.specs.Pointers.{PointsTo}
use Rattle.rb_layout.specs.Positions.{Open, layout_of, open_positions, leaf_of}
use Rattle.rb_layout.specs.Words.{flat_at, size_of, words_of_block}
use Rattle.rb_rel.specs.Placing.{Laid, Fits, Over, leaf_requests, blocks_of, lay, leaf_in, leaf_numbered, request_of}
use Rattle.rb_rel.specs.Relation.{shape_length}
use Rattle.rb_rel.proofs.Fitting.{KindFits, WordFits}
use Rattle.rb_rel.proofs.Layers.{Sound, open_of, can_hold, layer_shown, numbered, placed_at, stored}
use Rattle.rb_rel.specs.Storing.{address_at, number_of, with_block, with_blocks, with_words}
use Rattle.rb_rel.proofs.Packing.{packed}
use Rattle.rb_rel.proofs.Storing.{laid_more}
use Rattle.rb_fragment.specs.Plan.{Plan, Rep}
use Rattle.rb_fragment.proofs.Represented.{Rep-int}
use Rattle.rb_compose.specs.Counts.{capped_bits}
use Rattle.rb_compose.specs.inner.Code.{blocks_code, field_slots, field_type, is_int, is_low, is_ready, leaf_code, leaf_slots, low_bit, shift_of, whole_of}
use Rattle.rb_compose.proofs.Fits.{leaf_adds, roots_below, roots_count, roots_distinct, roots_from}
use Rattle.rb_compose.proofs.Leaves.{type_held, width_low, plan, is_sound, leaf_ok, bits_at, word_at, index_at}
use Rattle.rb_compose.proofs.Longer.{blocks_longer}
use Rattle.rb_compose.proofs.Beside.{composed_is, source_word, word_number}
use Rattle.rb_compose.proofs.Numbers.{bits_put, capped-is, const_put, from_zero, is_a_range, pointer_put, put_whole, shift_is, source_value, word_put}
use Rattle.rb_compose.proofs.Wholes.{HasWhole, is_whole}
use Rattle.rb_compose.proofs.Placing.{Ran, addresses, field, leaf_run, made}
use Rattle.rb_core.specs.declared.outcome.SourceEnd.TheVariants.{Done}
use Rattle.rb_fragment.specs.Owing.{Ends}
use Rattle.rb_fragment.specs.Fragments.{Comes}
use Rattle.rb_compose.specs.declared.subvalue.Subvalue.{Subvalue}
use Rattle.rb_compose.specs.Making.{LeafIsMade, MakesLeaf}
use Rattle.rb_compose.specs.Subvalues.{AreGivenAt, ArePartsHeld, held_slots}
use Rattle.rb_compose.proofs.Shapes.{root_short}

-- Numbers that are the same ----------------------------------------------------------------------

module _ (f g : FlatWord → ℕ) where
  abbrev SameIn : List FlatWord → Type 0
  SameIn fs = (j : ℕ) (x : FlatWord) → slice_get fs j ≡ Some x → f x ≡ g x

  same_map : (fs : List FlatWord) → SameIn fs → map f fs ≡ map g fs
  same_map [] same = refl
  same_map (x ∷ fs) same = ap (λ y. y ∷ map f fs) (same 0 x refl) ∙ ap (λ ys. g x ∷ ys) (same_map fs (λ j y e. same (suc j) y e))

  same_written : (fs : List FlatWord) (at : ℕ) (bytes : List (Option ℕ)) → SameIn fs → with_words f fs at bytes ≡ with_words g fs at bytes
  same_written [] at bytes same = refl
  same_written (x ∷ fs) at bytes same =
      same_written fs (at + x.width / 8) (write_le bytes (x.width / 8) at (f x)) (λ j y e. same (suc j) y e)
      ∙ ap (λ n. with_words g fs (at + x.width / 8) (write_le bytes (x.width / 8) at n)) (same 0 x refl)

  same_blocks : (xs : List Block) (m : Memory) → ((b : ℕ) (x : Block) → slice_get xs b ≡ Some x → SameIn x.words) → with_blocks f m xs ≡ with_blocks g m xs
  same_blocks [] m same = refl
  same_blocks (x ∷ xs) m same =
      let a = least_multiple m.next x.align in
      let one : with_block f m x ≡ with_block g m x =
      ap (λ bytes. let r : Memory = record { limit = m.limit; next = a + size_of x; blocks = (with_block g m x).blocks; bytes = bytes } in r) (same_written x.words a m.bytes (same 0 x refl)) in
      same_blocks xs (with_block f m x) (λ b y e. same (suc b) y e) ∙ ap (λ m1. with_blocks g m1 xs) one

-- where blocks fit, they are laid at their addresses
laid_there : (limit next : ℕ) (xs : List Block) (bs : List (ℕ × ℕ)) (p : ℕ) → lay limit next (map request_of xs) ≡ Fits bs p → (b : ℕ) (x : Block) → slice_get xs b ≡ Some x
    → slice_index (addresses next xs) b ≡ address_at bs b
laid_there limit next [] bs p e b x is = absurd cc
laid_there limit next (y ∷ xs) bs p e zero x is =
    let l = laid_more (λ f. 0) limit next (request_of y) (map request_of xs) bs p e in ap (λ cs. address_at cs 0) (sym l.3)
laid_there limit next (y ∷ xs) bs p e (suc b) x is =
    let l = laid_more (λ f. 0) limit next (request_of y) (map request_of xs) bs p e in
    laid_there limit (least_multiple next y.align + size_of y) xs l.1 p l.2 b x is ∙ ap (λ cs. address_at cs (suc b)) (sym l.3)

-- what asks for nothing is nothing
no_requests : (xs : List Block) → map request_of xs ≡ [] → xs ≡ []
no_requests [] e = refl
no_requests (x ∷ xs) e = absurd cc

-- a number at bit 0
at_bottom : (o x : ℕ) {v : ℕ} → o ≡ 0 → v ≡ x → v ≡ x * 2 ^ o
at_bottom o x e is = let one : x ≡ x * 1 = omega arith in is ∙ one ∙ ap (λ i. x * 2 ^ i) (sym e)

module _ (p : Program) (typed : IsTyped p) (agrees : Agrees p) (bound : ℕ → ℕ → ℕ) (t : ℕ) (layout : Layout) (number : ℕ) (leaf : Leaf)
    (is_layout : layout_of (flat_layouts p) t ≡ Some layout) (is_number : slice_get layout.leaves number ≡ Some leaf)
    (hs : List Subvalue) (old : Sheet) (given : AreGivenAt (plan p typed agrees bound) old.slots (open_positions p.types leaf.prov) hs) where
  abbrev the_plan : Plan
  the_plan = plan p typed agrees bound

  abbrev n : ℕ
  n = old.slots

  abbrev ok : Sound p agrees leaf
  ok = is_sound p typed agrees bound t layout number leaf is_layout is_number n hs given

  abbrev opens : List Open
  opens = open_positions p.types leaf.prov

  abbrev new : Sheet
  new = leaf_code hs leaf old

  abbrev slots : List ℕ
  slots = leaf_slots hs leaf old

  wide : (r : WordRef) (l align b : ℕ) → PointsTo leaf r l align b → IsAlignment align × ((k : ℕ) → align ≡ 2 ^ k → 24 ≤ l + k)
  wide r l align b q =
      let a4 = agrees.a4 t layout number leaf is_layout is_number in (a4.alignments r l align b q, a4.wide r l align b q)

  -- A run ----------------------------------------------------------------------------------------
  module _ (clean : Bool) (v : Value) (is_leaf : leaf_of layout v ≡ Some number) (s : List ℕ) (m : Memory) (good : IsGood m) (held : ArePartsHeld the_plan clean s m opens hs v) where
    abbrev subs : List ℕ → List ℕ
    subs path = slots_at s (field_slots hs path)

    abbrev ats : ℕ → ℕ
    ats b = slice_index (addresses m.next leaf.blocks) b

    -- the subvalue at an open position
    sub_held : (k : ℕ) (o : Open) → slice_get opens k ≡ Some o
        → (u : Value) × (part_at v o.path ≡ Some u) × Rep the_plan m clean o.ty u (subs o.path)
    sub_held k o at =
        let h = held k o at in
        (h.part, h.is_part, subst (λ xs. Rep the_plan m clean o.ty h.part (slots_at s xs)) (sym (ap held_slots h.is_there)) h.represents)

    reps : (k : ℕ) (o : Open) → slice_get opens k ≡ Some o → (u : Value) × Rep the_plan m clean o.ty u (subs o.path)
    reps k o at = let h = sub_held k o at in (h.0, h.2)

    asked : blocks_of (flat_layouts p) t v ≡ map request_of leaf.blocks
    asked =
        ap (λ o. leaf_requests (leaf_in o v)) is_layout ∙ ap (λ o. leaf_requests (leaf_numbered layout.leaves o)) is_leaf ∙ ap leaf_requests is_number

    module _ (final : List Instr) (callee : Callee) (next : Next) (law : Law final callee next) where
      abbrev reading : List ℕ → ℕ → ℕ
      reading = field final callee next law hs ats n s

      abbrev run_made : FlatWord → ℕ
      run_made = made final callee next law hs ats n s

      -- The blocks fit -----------------------------------------------------------------------------
      module _ (bs : List (ℕ × ℕ)) (top : ℕ) (laid : lay m.limit m.next (map request_of leaf.blocks) ≡ Fits bs top) where
        abbrev at : ℕ → ℕ
        at = address_at bs

        abbrev packs : FlatWord → ℕ
        packs = numbered p agrees clean t layout number leaf ok m good subs reps wide bs top laid

        same_address : (b : ℕ) (x : Block) → slice_get leaf.blocks b ≡ Some x → (ats b ≡ at b) × (ats b < 2 ^ 64)
        same_address b x is =
            let same = laid_there m.limit m.next leaf.blocks bs top laid b x is in
            let place = placed_at p agrees clean t layout number leaf ok m good subs reps wide bs top laid b x is in
            let within = place.within in
            let limit = good.limit in
            let low : at b < 18446744073709551616 = omega (arith, within, limit, (ok.are b x is).some) in
            (same, subst (λ i. i < 18446744073709551616) (sym same) low)

        put_value : (r : WordRef) (f : FlatWord) (k : ℕ) (q : Part) → flat_at leaf r ≡ Some f → slice_get f.parts k ≡ Some q → WordFits p.layouts opens f → q.l ≤ 64 → number_of subs at q.l q.kind < 2 ^ q.l
            → (kind : Kind) → q.kind ≡ kind → source_value reading ats q.l kind % 2 ^ q.l ≡ number_of subs at q.l kind
        put_value r f k q is part fits low small (Const x) e = const_put reading ats subs at q.l x (subst (λ (y : Kind). number_of subs at q.l y < 2 ^ q.l) e small)
        put_value r f k q is part fits low small (Bits path a) e =
            let b = bits_at p typed agrees bound t layout number leaf is_layout is_number n hs given q.l a path (subst (λ (y : Kind). KindFits p.layouts opens q.l y) e (fits.kinds k q part)) in
            let le = b.0 in
            bits_put reading ats subs at q.l a path (omega (arith, le)) low (index_at s (field_slots hs path) 0 b.1)
        put_value r f k q is part fits low small (Word path j) e =
            let b = word_at p typed agrees bound t layout number leaf is_layout is_number n hs given q.l j path (subst (λ (y : Kind). KindFits p.layouts opens q.l y) e (fits.kinds k q part)) in
            word_put reading ats subs at q.l j path (subst (λ (y : Kind). number_of subs at q.l y < 2 ^ q.l) e small) (index_at s (field_slots hs path) j b.0)
        put_value r f k q is part fits low small (Pointer align x) e =
            let points : PointsTo leaf r q.l align x = record { word = f; number = k; part = q; is_word = is; is_part = part; is_length = refl; is_pointer = e } in
            let to = (ok.flat.below r q.l align x points).0 in
            let a = same_address x to.0 to.1 in
            pointer_put reading ats subs at q.l align x (wide r q.l align x points).0 a.0 a.1 (subst (λ (y : Kind). number_of subs at q.l y < 2 ^ q.l) e small)

        -- a number of a field fits the field's bits
        int_low : (path : List ℕ) (bits : ℕ) → type_at opens path ≡ Some (Int bits) → slice_index (subs path) 0 < 2 ^ bits
        int_low path bits e =
            let o = open_of opens path (Int bits) e in
            let h = sub_held o.0 o.1 o.2 in
            let rep = subst (λ ty. Rep the_plan m clean ty h.0 (subs path)) o.4 (subst (λ q. Rep the_plan m clean o.1.ty h.0 (subs q)) o.3 h.2) in
            let x = Rep-int the_plan clean m bits h.0 (subs path) rep in
            subst (λ i. i < 2 ^ bits) (sym (ap (λ ws. slice_index ws 0) x.2)) x.3

        -- a field's word that a word has whole is what its part packs
        whole_value : (l : ℕ) (kind : Kind) (w : List ℕ × ℕ) → HasWhole hs l kind w → KindFits p.layouts opens l kind → reading w.0 w.1 ≡ number_of subs at l kind
        whole_value l kind w (inl h) fits =
            let b = word_at p typed agrees bound t layout number leaf is_layout is_number n hs given l w.1 w.0 (subst (KindFits p.layouts opens l) h fits) in
            index_at s (field_slots hs w.0) w.1 b.0 ∙ ap (number_of subs at l) (sym h)
        whole_value l kind w (inr h) fits =
            let f = subst (KindFits p.layouts opens l) h.0 fits in
            let b = bits_at p typed agrees bound t layout number leaf is_layout is_number n hs given l 0 w.0 f in
            let x = slice_index (subs w.0) 0 in
            let ty = type_held p typed agrees bound t layout number leaf is_layout is_number n hs given w.0 (Int f.0) f.1 in
            let same : f.0 ≡ l = same_nat f.0 l (ap (is_int l) (sym ty) ∙ h.2) in
            let low : x < 2 ^ l = subst (λ i. x < 2 ^ i) same (int_low w.0 f.0 f.1) in
            ap (reading w.0) h.1 ∙ index_at s (field_slots hs w.0) 0 b.1 ∙ sym (from_zero x l ∙ mod-eq_of_lt low) ∙ ap (number_of subs at l) (sym h.0)

        whole_same : (f : FlatWord) → WordFits p.layouts opens f → (w : List ℕ × ℕ) → whole_of hs f.parts ≡ Some w → reading w.0 w.1 ≡ packed subs at f.parts
        whole_same f fits w e =
            let h = is_whole hs f.parts w e in
            let q = h.part in
            whole_value q.l q.kind w h.has (fits.kinds 0 q (ap (λ xs. slice_get xs 0) h.only))
            ∙ sym (ap (packed subs at) h.only ∙ ap (λ o. put_of 0 o q.l (number_of subs at q.l q.kind)) h.first ∙ put_whole q.l (number_of subs at q.l q.kind))

        -- a part that stands in its place is what it has to hold there
        ready_value : (r : WordRef) (f : FlatWord) (k : ℕ) (q : Part) → flat_at leaf r ≡ Some f → slice_get f.parts k ≡ Some q → WordFits p.layouts opens f
            → (kind : Kind) → q.kind ≡ kind → is_ready hs q.o q.l kind ≡ true → source_word hs reading ats kind ≡ number_of subs at q.l kind * 2 ^ q.o
        ready_value r f k q is part fits (Const c) e ready = absurd cc
        ready_value r f k q is part fits (Bits path a) e ready =
            let h = and_parts (q.o == 0 && a == 0) (is_int q.l (field_type hs path)) ready in
            let g = and_parts (q.o == 0) (a == 0) h.0 in
            at_bottom q.o (number_of subs at q.l (Bits path a)) (same_nat q.o 0 g.0)
            (whole_value q.l (Bits path a) (path, 0) (inr (ap (λ i. Bits path i) (same_nat a 0 g.1), refl, h.1)) (subst (λ (y : Kind). KindFits p.layouts opens q.l y) e (fits.kinds k q part)))
        ready_value r f k q is part fits (Word path j) e ready =
            at_bottom q.o (number_of subs at q.l (Word path j)) (same_nat q.o 0 ready)
            (whole_value q.l (Word path j) (path, j) (inl refl) (subst (λ (y : Kind). KindFits p.layouts opens q.l y) e (fits.kinds k q part)))
        ready_value r f k q is part fits (Pointer align x) e ready =
            let points : PointsTo leaf r q.l align x = record { word = f; number = k; part = q; is_word = is; is_part = part; is_length = refl; is_pointer = e } in
            let to = (ok.flat.below r q.l align x points).0 in
            let can = can_hold p agrees clean t layout number leaf ok m good subs reps wide bs top laid r f is fits in
            let unit : align ≡ 2 ^ q.o = shift_is align (wide r q.l align x points).0 ∙ ap (λ i. 2 ^ i) (same_nat (shift_of align) q.o ready) in
            (same_address x to.0 to.1).0 ∙ sym (can.aligned k q part align x e) ∙ ap (λ i. at x / align * i) unit

        -- bits of a number that are to stand from bit 0 on
        low_value : (f : FlatWord) (k : ℕ) (q : Part) → slice_get f.parts k ≡ Some q → WordFits p.layouts opens f → q.l ≤ 64
            → (kind : Kind) → q.kind ≡ kind → is_low q.o kind ≡ true → take_of (source_word hs reading ats kind) (low_bit kind) (capped_bits q.l) ≡ number_of subs at q.l kind * 2 ^ q.o
        low_value f k q part fits few (Const x) e low = absurd cc
        low_value f k q part fits few (Bits path a) e low =
            let b = bits_at p typed agrees bound t layout number leaf is_layout is_number n hs given q.l a path (subst (λ (y : Kind). KindFits p.layouts opens q.l y) e (fits.kinds k q part)) in
            let le = b.0 in
            at_bottom q.o (number_of subs at q.l (Bits path a)) (same_nat q.o 0 low)
            (ap (λ i. take_of i (capped_bits a) (capped_bits q.l)) (index_at s (field_slots hs path) 0 b.1) ∙ ap (λ i. take_of (slice_index (subs path) 0) i (capped_bits q.l)) (capped-is a (omega (arith, le)))
            ∙ ap (λ i. take_of (slice_index (subs path) 0) a i) (capped-is q.l few))
        low_value f k q part fits few (Word path j) e low = absurd cc
        low_value f k q part fits few (Pointer align x) e low = absurd cc

        -- a composed word is what its parts pack
        parts_same : (r : WordRef) (f : FlatWord) → flat_at leaf r ≡ Some f → f.width ≤ 64 → WordFits p.layouts opens f → word_number hs reading ats None f.parts ≡ packed subs at f.parts
        parts_same r f is low fits =
            let can = can_hold p agrees clean t layout number leaf ok m good subs reps wide bs top laid r f is fits in
            composed_is hs reading ats subs at f.parts
            (λ k q part.
            let inside = fits.tidy.inside k q part in
            let some = fits.some k q part in
            is_a_range (capped_bits q.o) (capped_bits q.l) (omega (arith, some)) (omega (arith, inside, low)))
            (λ k q part.
            let inside = fits.tidy.inside k q part in
            let few : q.l ≤ 64 = omega (arith, inside, low) in
            record {
              put = record {
                first = capped-is q.o (omega (arith, inside, low));
                long = capped-is q.l few;
                fits = can.fit k q part;
                value = put_value r f k q is part fits few (can.fit k q part) q.kind refl;
              };
              inside = omega (arith, inside, low);
              ready = ready_value r f k q is part fits q.kind refl;
              low = low_value f k q part fits few q.kind refl;
            })
            fits.tidy.apart

        word_same : (r : WordRef) (f : FlatWord) → flat_at leaf r ≡ Some f → f.width ≤ 64 → WordFits p.layouts opens f → run_made f ≡ packs f
        word_same r f is low fits = go (whole_of hs f.parts) refl
          where
            go : (o : Option (List ℕ × ℕ)) → whole_of hs f.parts ≡ o → word_number hs reading ats o f.parts ≡ packed subs at f.parts
            go None e = parts_same r f is low fits
            go (Some w) e = whole_same f fits w e

        root_same : (j : ℕ) (f : FlatWord) → slice_get leaf.root j ≡ Some f → run_made f ≡ packs f
        root_same j f e = word_same (record { block = None; word = j }) f e (root_short p typed agrees t layout number leaf is_layout is_number j f e) (ok.root j f e)

        block_same : (b : ℕ) (x : Block) → slice_get leaf.blocks b ≡ Some x → (j : ℕ) (f : FlatWord) → slice_get x.words j ≡ Some f → run_made f ≡ packs f
        block_same b x is j f e =
            let a4 = agrees.a4 t layout number leaf is_layout is_number in
            word_same (record { block = Some b; word = j }) f (ap (λ y. slice_get (words_of_block y) j) is ∙ e) (width_low f.width (a4.widths b x j f is e)) (ok.inner b x is j f e)

        memory_same : (stored p agrees clean t layout number leaf ok m good subs reps wide bs top laid).memory ≡ with_blocks run_made m leaf.blocks
        memory_same = (stored p agrees clean t layout number leaf ok m good subs reps wide bs top laid).is_filled ∙ sym (same_blocks run_made packs leaf.blocks m block_same)

        grown : Grown m (with_blocks run_made m leaf.blocks) bs top
        grown = subst (λ m1. Grown m m1 bs top) memory_same (stored p agrees clean t layout number leaf ok m good subs reps wide bs top laid).grown

        represents : Rep the_plan (with_blocks run_made m leaf.blocks) clean (Named t) v (map run_made leaf.root)
        represents =
            let here = layer_shown p agrees clean t layout number leaf ok m good subs reps wide bs top laid v is_layout is_leaf is_number (λ path. unwrap_or (part_at v path) v)
            (λ k o e. let h = sub_held k o e in let x = ap (λ y. unwrap_or y v) h.1 in (h.1 ∙ ap Some (sym x), subst (λ u. Rep the_plan m clean o.ty u (subs o.path)) (sym x) h.2)) in
            subst (λ ws. Rep the_plan (with_blocks run_made m leaf.blocks) clean (Named t) v ws) (sym (same_map run_made packs leaf.root root_same))
            (subst (λ m1. Rep the_plan m1 clean (Named t) v (map packs leaf.root)) memory_same here)

      -- What the run owes ---------------------------------------------------------------------------
      runs_so : (w : World) → w.memory ≡ m → (l : Laid) → lay m.limit m.next (map request_of leaf.blocks) ≡ l
          → Ran final callee next law l n old new s w (with_blocks run_made m leaf.blocks) (λ s'. slots_at s' slots ≡ map run_made leaf.root)
          → Ends w.switches (next (length old.code) s w) m l (Done v w.left)
          (λ u w'. Comes the_plan clean (next (length old.code) s w) next (length new.code) n (Named t) slots s u w' × (blocks_of (flat_layouts p) t v ≡ [] → w'.memory ≡ m))
      runs_so w is (Over full) laid r = r
      runs_so w is (Fits bs top) laid r =
          let g = subst (λ m1. Grown m m1 bs top) (sym r.memory) (grown bs top laid) in
          let rep = subst (λ ws. Rep the_plan r.world.memory clean (Named t) v ws) (sym r.post) (subst (λ m1. Rep the_plan m1 clean (Named t) v (map run_made leaf.root)) (sym r.memory) (represents bs top laid)) in
          (r.world, g, r.left, r.switches, ((r.slots, r.ran, r.keeps, rep), λ none. r.memory ∙ ap (with_blocks run_made m) (no_requests leaf.blocks (sym asked ∙ none))))

  leaf_made : LeafIsMade the_plan t number layout leaf hs old new slots
  leaf_made =
      let fits = leaf_ok p typed agrees bound t layout number leaf is_layout is_number n hs given in
      let placed = blocks_code hs leaf.blocks [] old in
      let more = (blocks_longer hs leaf.blocks [] old).more in
      record {
        adds = leaf_adds hs the_plan n leaf old (omega arith) fits;
        given = roots_below hs placed.1 leaf.root placed.0;
        count = roots_count hs placed.1 leaf.root placed.0
            ∙ sym (length-map leaf.root (λ (f : FlatWord). f.width)) ∙ ap length (agrees.a2 t layout number leaf is_layout is_number) ∙ sym (ap shape_length is_layout);
        fresh = roots_from hs placed.1 n leaf.root placed.0 more;
        distinct = roots_distinct hs placed.1 leaf.root placed.0;
        does = λ clean v is_leaf final callee next law agrees1 s w long good pre.
            let m = w.memory in
            let out = next (length old.code) s w in
            let Ok = λ (u : Value) (w' : World). Comes the_plan clean out next (length new.code) n (Named t) slots s u w' × (blocks_of (flat_layouts p) t v ≡ [] → w'.memory ≡ m) in
            subst (λ rs. Ends w.switches out m (lay m.limit m.next rs) (Done v w.left) Ok) (sym (asked clean v is_leaf s m good pre))
            (runs_so clean v is_leaf s m good pre final callee next law w refl (lay m.limit m.next (map request_of leaf.blocks)) refl
            (leaf_run final callee next law hs (ats clean v is_leaf s m good pre) n s leaf old w agrees1 good long (omega arith) fits (λ j lt. refl)));
      }

-- The plan of an agreed program --------------------------------------------------------------------

abbrev with_layouts : Plan → List Layout → Plan
with_layouts plan layouts = record { program = plan.program; layouts = layouts; bound = plan.bound }

pub makes : (leaf : Leaf) (hs : List Subvalue) (old new : Sheet) (slots : List ℕ) → slots ≡ leaf_slots hs leaf old → new ≡ leaf_code hs leaf old → MakesLeaf leaf hs old new slots
makes leaf hs old new slots is_slots is_code plan typed agreed t n layout is_layout is_leaf given =
    let p = plan.program in
    let flat = agreed.0 in
    let given1 = subst (λ ls. AreGivenAt (with_layouts plan ls) old.slots (open_positions p.types leaf.prov) hs) flat given in
    let a = leaf_made p typed agreed.1 plan.bound t layout n leaf (ap (λ ls. layout_of ls t) (sym flat) ∙ is_layout) is_leaf hs old given1 in
    let b = subst (λ ls. LeafIsMade (with_layouts plan ls) t n layout leaf hs old (leaf_code hs leaf old) (leaf_slots hs leaf old)) (sym flat) a in
    subst (λ xs. LeafIsMade plan t n layout leaf hs old new xs) (sym is_slots) (subst (λ (x : Sheet). LeafIsMade plan t n layout leaf hs old x (leaf_slots hs leaf old)) (sym is_code) b)
