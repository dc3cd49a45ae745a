-- What the code of a construction demands of a leaf, and that it is fitting then.
use Rattle.std.proofs.Common.{◌≡◌, ℕ, zero, suc, ◌+◌, ◌-◌, ◌/◌, ◌^◌, ◌<◌, ◌≤◌, ◌==◌, inl, inr, Bool, true, false, List, [], ◌∷◌, ◌++◌, length, Option, Some, None, refl, sym, subst, ap, ◌∙◌, arith, length-append}
use Rattle.std.specs.Prelude.{slice_get, slice_index, if◌then◌else◌}
use Rattle.std.proofs.lemmas.Bool.{cases_lt}
use Rattle.rb_bits.specs.Words.{IsRange}
use Rattle.rb_bytes.specs.Memory.{IsAlign}
use Rattle.rb_target.specs.declared.instr.AluOp.TheVariants.{Or}
use Rattle.rb_target.specs.declared.instr.Instr.{Instr}
use Rattle.rb_target.specs.declared.instr.Instr.TheVariants as I
use Rattle.rb_target.specs.Sheet.{Sheet, with_more, with_slot}
use Rattle.rb_layout.specs.declared.layout.Block.{Block}
use Rattle.rb_layout.specs.declared.layout.FlatWord.{FlatWord}
use Rattle.rb_layout.specs.declared.layout.Kind.{Kind}
use Rattle.rb_layout.specs.declared.layout.Kind.TheVariants.{Const, Bits, Word, Pointer}
use Rattle.rb_layout.specs.declared.layout.Leaf.{Leaf}
use Rattle.rb_layout.specs.declared.layout.Part.{Part}
use Rattle.rb_layout.specs.A4.{IsBlockWidth}
use Rattle.rb_layout.specs.Words.{bytes_taken, size_of}
use Rattle.rb_compose.specs.declared.subvalue.Subvalue.{Subvalue}
use Rattle.rb_fragment.specs.Plan.{Plan}
use Rattle.rb_fragment.specs.Adding.{Adds}
use Rattle.rb_fragment.specs.Slots.{AllBelow, AllFrom, IsDistinct}
use Rattle.rb_fragment.proofs.Adding.{Adds-one, Adds-refl, Adds-trans, push_adds}
use Rattle.rb_fragment.proofs.Moves.{one-from}
use Rattle.rb_rel.proofs.Storing.{IsBlock}
use Rattle.rb_compose.specs.Counts.{capped_bits}
use Rattle.rb_compose.specs.inner.Code.{after_constants, begun_code, block_code, blocks_code, constants, field_slots, is_low, is_ready, joined_code, kind_code, leaf_code, low_bit, part_code, parts_code, put_code, root_code, root_slots, roots_code, shift_of, slot_of, source_slot, stores_code, taken_code, taken_slot, value_code, value_slot, whole_of, whole_slot, word_code}
use Rattle.rb_compose.proofs.Longer.{begun_by, block_longer, blocks_longer, fresh_root, fresh_word, from_code, joined_by, low_by, part_by, part_longer, root_longer, roots_longer, stores_longer, taken_longer, value_longer, word_by}
use Rattle.rb_compose.proofs.Numbers.{constants_small, shift_small}
use Rattle.rb_compose.proofs.Skipping.{each_after}
use Rattle.rb_compose.proofs.Wholes.{HasWhole, is_whole}

-- The address slots of blocks --------------------------------------------------------------------

pub at_left : (xs : List ℕ) (x j : ℕ) → j < length xs → slice_index (xs ++ x ∷ []) j ≡ slice_index xs j
at_left [] x j lt = absurd (omega (arith, lt))
at_left (y ∷ xs) x zero lt = refl
at_left (y ∷ xs) x (suc j) lt = at_left xs x j (omega (arith, lt))

pub at_end : (xs : List ℕ) (x : ℕ) → slice_index (xs ++ x ∷ []) (length xs) ≡ x
at_end [] x = refl
at_end (y ∷ xs) x = at_end xs x

abbrev pub SlotsBelow : List ℕ → ℕ → Type 0
SlotsBelow blocks n = (j : ℕ) → j < length blocks → slice_index blocks j < n

pub slots_below_more : (blocks : List ℕ) (n n' : ℕ) → n ≤ n' → SlotsBelow blocks n → SlotsBelow blocks n'
slots_below_more blocks n n' le h j lt = let x = h j lt in omega (arith, le, x)

pub one_more_below : (blocks : List ℕ) (d n : ℕ) → d < n → SlotsBelow blocks n → SlotsBelow (blocks ++ d ∷ []) n
one_more_below blocks d n lt h j le =
    elim (cases_lt j (length blocks)) [
      | inl x ↦ subst (λ k. k < n) (sym (at_left blocks d j x)) (h j x)
      | inr x ↦
          let long = length-append blocks (d ∷ []) in
          let same : j ≡ length blocks = omega (arith, le, x, long) in
          subst (λ k. k < n) (sym (ap (slice_index (blocks ++ d ∷ [])) same ∙ at_end blocks d)) lt
    ]

module _ (hs : List Subvalue) where
  -- Demands --------------------------------------------------------------------------------------

  -- a field's slots are below n, and a block that is pointed to is one of the first so many
  abbrev pub Uses : ℕ → ℕ → Kind → Type 0
  Uses n count (Const c) = Unit {0}
  Uses n count (Bits path a) = slice_index (field_slots hs path) 0 < n
  Uses n count (Word path j) = slice_index (field_slots hs path) j < n
  Uses n count (Pointer align x) = x < count

  abbrev pub IsMade : ℕ → Kind → Type 0
  IsMade l (Const c) = Unit {0}
  IsMade l (Bits path a) = IsRange (capped_bits a) (capped_bits l)
  IsMade l (Word path j) = Unit {0}
  IsMade l (Pointer align x) = Unit {0}

  pub record PartOk (n count : ℕ) (p : Part) : Type 0 where
    pub uses : Uses n count p.kind
    pub range : IsRange (capped_bits p.o) (capped_bits p.l)
    pub made : IsMade p.l p.kind

  abbrev pub PartsOk : ℕ → ℕ → List Part → Type 0
  PartsOk n count ps = (k : ℕ) (p : Part) → slice_get ps k ≡ Some p → PartOk n count p

  abbrev pub WordsOk : ℕ → ℕ → List FlatWord → Type 0
  WordsOk n count fs = (k : ℕ) (f : FlatWord) → slice_get fs k ≡ Some f → PartsOk n count f.parts

  pub record BlockOk (n count : ℕ) (x : Block) : Type 0 where
    pub is : IsBlock x
    pub few : size_of x ≤ 512
    pub align : IsAlign x.align
    pub words : WordsOk n count x.words

  abbrev pub BlocksOk : ℕ → ℕ → List Block → Type 0
  BlocksOk n count xs = (k : ℕ) (x : Block) → slice_get xs k ≡ Some x → BlockOk n (count + k) x

  pub record LeafOk (n : ℕ) (leaf : Leaf) : Type 0 where
    pub blocks : BlocksOk n 0 leaf.blocks
    pub root : WordsOk n (length leaf.blocks) leaf.root

  -- Fitting code ---------------------------------------------------------------------------------

  module _ (plan : Plan) (n : ℕ) (blocks : List ℕ) where
    taken_adds : (x o l : ℕ) (b : Sheet) → x < b.slots → IsRange o l → Adds plan b (taken_code x o l b) × (taken_slot x o b.slots < (taken_code x o l b).slots)
    taken_adds x o l b lt range = elim (o == 0) as (λ t. Adds plan b (if t then b else with_more (with_slot b) (I.Take b.slots x o l)) × ((if t then x else b.slots) < (if t then b else with_more (with_slot b) (I.Take b.slots x o l)).slots)) [
      | true ↦ (Adds-refl plan b, lt)
      | false ↦ (Adds-one plan b (I.Take b.slots x o l) (0, omega arith, refl) (record { bounded = range; slots_fit = (omega arith, omega (arith, lt)); targets = tt; calls = tt }), omega arith)
    ]

    put_adds : (d x from long : ℕ) (p : Part) (b : Sheet) → d < b.slots → x < b.slots → IsRange from long → IsRange (capped_bits p.o) (capped_bits p.l) → Adds plan b (put_code d x from long p b)
    put_adds d x from long p b ld lx taken put =
        let c = taken_code x from long b in
        let first = taken_adds x from long b lx taken in
        let more = (taken_longer x from long b).more in
        Adds-trans plan b c (put_code d x from long p b) first.0
        (push_adds plan c (I.Put d (taken_slot x from b.slots) (capped_bits p.o) (capped_bits p.l)) (record { bounded = put; slots_fit = (omega (arith, ld, more), first.1); targets = tt; calls = tt }))

    kind_adds : (d : ℕ) (p : Part) (kind : Kind) (b : Sheet) → d < b.slots → n ≤ b.slots → SlotsBelow blocks b.slots → Uses n (length blocks) kind → IsMade p.l kind → IsRange (capped_bits p.o) (capped_bits p.l) → Adds plan b (kind_code hs blocks d p kind b)
    kind_adds d p (Const c) b lt le low u made range = Adds-refl plan b
    kind_adds d p (Bits path a) b lt le low u made range = put_adds d (slice_index (field_slots hs path) 0) (capped_bits a) (capped_bits p.l) p b lt (omega (arith, le, u)) made range
    kind_adds d p (Word path j) b lt le low u made range = put_adds d (slice_index (field_slots hs path) j) 0 64 p b lt (omega (arith, le, u)) (omega arith, omega arith) range
    kind_adds d p (Pointer align x) b lt le low u made range =
        let small = shift_small align in put_adds d (slice_index blocks x) (shift_of align) (64 - shift_of align) p b lt (low x u) (omega (arith, small), omega (arith, small)) range

    -- the slot from which a part that stands in its place is made
    source_low : (m o l : ℕ) (kind : Kind) → is_ready hs o l kind ≡ true → n ≤ m → SlotsBelow blocks m → Uses n (length blocks) kind → source_slot hs blocks kind < m
    source_low m o l (Const c) e le low u = absurd cc
    source_low m o l (Bits path a) e le low u = omega (arith, le, u)
    source_low m o l (Word path j) e le low u = omega (arith, le, u)
    source_low m o l (Pointer align x) e le low u = low x u

    part_adds : (d : ℕ) (p : Part) (b : Sheet) → d < b.slots → n ≤ b.slots → SlotsBelow blocks b.slots → PartOk n (length blocks) p → Adds plan b (part_code hs blocks d p b)
    part_adds d p b lt le low ok = by (is_ready hs p.o p.l p.kind) refl
      where
        by : (t : Bool) → is_ready hs p.o p.l p.kind ≡ t → Adds plan b (part_by hs blocks d p b t)
        by true e = push_adds plan b (I.Alu Or 64 d d (source_slot hs blocks p.kind)) (record { bounded = (omega arith, omega arith); slots_fit = (lt, lt, source_low b.slots p.o p.l p.kind e le low ok.uses); targets = tt; calls = tt })
        by false e = kind_adds d p p.kind b lt le low ok.uses ok.made ok.range

    parts_adds : (d : ℕ) (ps : List Part) (b : Sheet) → d < b.slots → n ≤ b.slots → SlotsBelow blocks b.slots → PartsOk n (length blocks) ps → Adds plan b (parts_code hs blocks d ps b)
    parts_adds d [] b lt le low ok = Adds-refl plan b
    parts_adds d (p ∷ ps) b lt le low ok =
        let c = part_code hs blocks d p b in
        let more = (part_longer hs blocks d p b).more in
        Adds-trans plan b c (parts_code hs blocks d ps c) (part_adds d p b lt le low (ok 0 p refl))
        (parts_adds d ps c (omega (arith, lt, more)) (omega (arith, le, more)) (slots_below_more blocks b.slots c.slots more low) (λ k q e. ok (suc k) q e))

    -- an instruction that writes the first new slot, and parts
    from_adds : (i : Instr) (ps : List Part) (b : Sheet) → Adds plan b (with_more (with_slot b) i) → n ≤ b.slots → SlotsBelow blocks b.slots → PartsOk n (length blocks) ps → Adds plan b (from_code hs blocks i ps b)
    from_adds i ps b one le low ok =
        let c = with_more (with_slot b) i in
        Adds-trans plan b c (from_code hs blocks i ps b) one (parts_adds b.slots ps c (omega arith) (omega (arith, le)) (slots_below_more blocks b.slots c.slots (omega arith) low) ok)

    const_adds : (k : ℕ) (b : Sheet) → k < 2 ^ 64 → Adds plan b (with_more (with_slot b) (I.Const b.slots k))
    const_adds k b small = Adds-one plan b (I.Const b.slots k) (0, omega arith, refl) (record { bounded = small; slots_fit = omega arith; targets = tt; calls = tt })

    copy_adds : (x : ℕ) (b : Sheet) → x < b.slots → Adds plan b (with_more (with_slot b) (I.Copy b.slots x))
    copy_adds x b lt = Adds-one plan b (I.Copy b.slots x) (0, omega arith, refl) (record { bounded = tt; slots_fit = (omega arith, omega (arith, lt)); targets = tt; calls = tt })

    or_adds : (x y : ℕ) (b : Sheet) → x < b.slots → y < b.slots → Adds plan b (with_more (with_slot b) (I.Alu Or 64 b.slots x y))
    or_adds x y b lx ly =
        Adds-one plan b (I.Alu Or 64 b.slots x y) (0, omega arith, refl) (record { bounded = (omega arith, omega arith); slots_fit = (omega arith, omega (arith, lx), omega (arith, ly)); targets = tt; calls = tt })

    joined_adds : (x : ℕ) (ps : List Part) (b : Sheet) → x < b.slots → n ≤ b.slots → SlotsBelow blocks b.slots → PartsOk n (length blocks) ps → Adds plan b (joined_code hs blocks x ps b)
    joined_adds x [] b lt le low ok = copy_adds x b lt
    joined_adds x (p ∷ ps) b lt le low ok = by (is_ready hs p.o p.l p.kind) refl
      where
        by : (t : Bool) → is_ready hs p.o p.l p.kind ≡ t → Adds plan b (joined_by hs blocks x p ps b t)
        by true e =
            let y = source_slot hs blocks p.kind in
            from_adds (I.Alu Or 64 b.slots x y) ps b (or_adds x y b lt (source_low b.slots p.o p.l p.kind e le low (ok 0 p refl).uses)) le low (λ k q h. ok (suc k) q h)
        by false e = from_adds (I.Copy b.slots x) (p ∷ ps) b (copy_adds x b lt) le low ok

    -- bits of a number, and the slot from which they are taken
    low_part : (m o l : ℕ) (kind : Kind) → is_low o kind ≡ true → n ≤ m → Uses n (length blocks) kind → IsMade l kind → IsRange (low_bit kind) (capped_bits l) × (source_slot hs blocks kind < m)
    low_part m o l (Const c) e le u made = absurd cc
    low_part m o l (Bits path a) e le u made = (made, omega (arith, le, u))
    low_part m o l (Word path j) e le u made = absurd cc
    low_part m o l (Pointer align x) e le u made = absurd cc

    begun_adds : (ps : List Part) (b : Sheet) → n ≤ b.slots → SlotsBelow blocks b.slots → PartsOk n (length blocks) ps → Adds plan b (begun_code hs blocks ps b)
    begun_adds [] b le low ok = const_adds 0 b (omega arith)
    begun_adds (p ∷ ps) b le low ok = by (is_ready hs p.o p.l p.kind) refl
      where
        by : (t : Bool) → is_ready hs p.o p.l p.kind ≡ t → Adds plan b (begun_by hs blocks p ps b t)
        by true e =
            joined_adds (source_slot hs blocks p.kind) (after_constants ps) b (source_low b.slots p.o p.l p.kind e le low (ok 0 p refl).uses) le low
            (each_after (PartOk n (length blocks)) ps (λ k q h. ok (suc k) q h))
        by false e = from_low (is_low p.o p.kind) refl
          where
            from_low : (t : Bool) → is_low p.o p.kind ≡ t → Adds plan b (low_by hs blocks p ps b t)
            from_low true h =
                let take = low_part b.slots p.o p.l p.kind h le (ok 0 p refl).uses (ok 0 p refl).made in
                let x = source_slot hs blocks p.kind in
                from_adds (I.Take b.slots x (low_bit p.kind) (capped_bits p.l)) ps b
                (Adds-one plan b (I.Take b.slots x (low_bit p.kind) (capped_bits p.l)) (0, omega arith, refl) (record { bounded = take.0; slots_fit = (omega arith, (let lt = take.1 in omega (arith, lt))); targets = tt; calls = tt }))
                le low (λ k q h1. ok (suc k) q h1)
            from_low false h = from_adds (I.Const b.slots 0) (p ∷ ps) b (const_adds 0 b (omega arith)) le low ok

    word_adds : (ps : List Part) (b : Sheet) → n ≤ b.slots → SlotsBelow blocks b.slots → PartsOk n (length blocks) ps → Adds plan b (word_code hs blocks ps b)
    word_adds ps b le low ok =
        let k = constants 0 ps in
        elim (k == 0) as (λ t. Adds plan b (word_by hs blocks ps b t)) [
          | true ↦ begun_adds (after_constants ps) b le low (each_after (PartOk n (length blocks)) ps ok)
          | false ↦ from_adds (I.Const b.slots k) ps b (const_adds k b (constants_small ps 0 (omega arith))) le low ok
        ]

    -- a field's word that is a word whole is in a slot below n
    whole_below : (ps : List Part) (w : List ℕ × ℕ) → whole_of hs ps ≡ Some w → PartsOk n (length blocks) ps → slice_index (field_slots hs w.0) w.1 < n
    whole_below ps w e ok = let h = is_whole hs ps w e in by h.part.l h.part.kind h.has (ok 0 h.part (ap (λ xs. slice_get xs 0) h.only)).uses
      where
        by : (l : ℕ) (kind : Kind) → HasWhole hs l kind w → Uses n (length blocks) kind → slice_index (field_slots hs w.0) w.1 < n
        by l kind (inl h) u = subst (Uses n (length blocks)) h u
        by l kind (inr h) u = let v : slice_index (field_slots hs w.0) 0 < n = subst (Uses n (length blocks)) h.0 u in subst (λ j. slice_index (field_slots hs w.0) j < n) (sym h.1) v

    value_adds : (o : Option (List ℕ × ℕ)) (ps : List Part) (b : Sheet) → whole_of hs ps ≡ o → n ≤ b.slots → SlotsBelow blocks b.slots → PartsOk n (length blocks) ps
        → Adds plan b (value_code (slot_of hs o) hs blocks ps b) × (value_slot (slot_of hs o) b.slots < (value_code (slot_of hs o) hs blocks ps b).slots)
    value_adds None ps b e le low ok = (word_adds ps b le low ok, fresh_word hs blocks ps b)
    value_adds (Some w) ps b e le low ok = (Adds-refl plan b, (let lt = whole_below ps w e ok in omega (arith, lt, le)))

    root_adds : (o : Option (List ℕ × ℕ)) (ps : List Part) (b : Sheet) → whole_of hs ps ≡ o → n ≤ b.slots → SlotsBelow blocks b.slots → PartsOk n (length blocks) ps → Adds plan b (root_code (slot_of hs o) hs blocks ps b)
    root_adds None ps b e le low ok = word_adds ps b le low ok
    root_adds (Some w) ps b e le low ok =
        let lt = whole_below ps w e ok in
        Adds-one plan b (I.Copy b.slots (slice_index (field_slots hs w.0) w.1)) (0, omega arith, refl) (record { bounded = tt; slots_fit = (omega arith, omega (arith, lt, le)); targets = tt; calls = tt })

    byte_some : (w : ℕ) → IsBlockWidth w → 1 ≤ w / 8
    byte_some w (inl e) = omega (arith, e)
    byte_some w (inr (inl e)) = omega (arith, e)
    byte_some w (inr (inr (inl e))) = omega (arith, e)
    byte_some w (inr (inr (inr e))) = omega (arith, e)

    capped_width : (w : ℕ) → IsBlockWidth w → IsBlockWidth (capped_bits w)
    capped_width w (inl e) = inl (omega (arith, e))
    capped_width w (inr (inl e)) = inr (inl (omega (arith, e)))
    capped_width w (inr (inr (inl e))) = inr (inr (inl (omega (arith, e))))
    capped_width w (inr (inr (inr e))) = inr (inr (inr (omega (arith, e))))

    stores_adds : (a : ℕ) (fs : List FlatWord) (at : ℕ) (b : Sheet) → a < b.slots → n ≤ b.slots → SlotsBelow blocks b.slots → at + bytes_taken fs ≤ 512
        → ((k : ℕ) (f : FlatWord) → slice_get fs k ≡ Some f → IsBlockWidth f.width) → WordsOk n (length blocks) fs → Adds plan b (stores_code hs blocks a fs at b)
    stores_adds a [] at b lt le low room wide ok = Adds-refl plan b
    stores_adds a (f ∷ fs) at b lt le low room wide ok =
        let o = whole_of hs f.parts in
        let c = value_code (slot_of hs o) hs blocks f.parts b in
        let store = I.Store a at (capped_bits f.width) (value_slot (slot_of hs o) b.slots) in
        let d = with_more c store in
        let more = (value_longer hs (slot_of hs o) blocks f.parts b).more in
        let some = byte_some f.width (wide 0 f refl) in
        let value = value_adds o f.parts b refl le low (ok 0 f refl) in
        Adds-trans plan b c (stores_code hs blocks a (f ∷ fs) at b) value.0
        (Adds-trans plan c d (stores_code hs blocks a (f ∷ fs) at b)
        (push_adds plan c store (record { bounded = (omega (arith, room, some), capped_width f.width (wide 0 f refl)); slots_fit = (omega (arith, lt, more), value.1); targets = tt; calls = tt }))
        (stores_adds a fs (at + f.width / 8) d (omega (arith, lt, more)) (omega (arith, le, more)) (slots_below_more blocks b.slots d.slots more low) (omega (arith, room)) (λ k g e. wide (suc k) g e) (λ k g e. ok (suc k) g e)))

    block_adds : (x : Block) (b : Sheet) → n ≤ b.slots → SlotsBelow blocks b.slots → BlockOk n (length blocks) x → Adds plan b (block_code hs blocks x b)
    block_adds x b le low ok =
        let place = I.Place b.slots (size_of x) x.align in
        let c = with_more (with_slot b) place in
        let few = ok.few in
        Adds-trans plan b c (block_code hs blocks x b)
        (Adds-one plan b place (0, omega arith, refl) (record { bounded = ((ok.is.some, few), ok.align); slots_fit = omega arith; targets = tt; calls = tt }))
        (stores_adds b.slots x.words 0 c (omega arith) (omega (arith, le)) (slots_below_more blocks b.slots c.slots (omega arith) low) (omega (arith, few)) ok.is.widths ok.words)

    roots_adds : (fs : List FlatWord) (b : Sheet) → n ≤ b.slots → SlotsBelow blocks b.slots → WordsOk n (length blocks) fs → Adds plan b (roots_code hs blocks fs b)
    roots_adds [] b le low ok = Adds-refl plan b
    roots_adds (f ∷ fs) b le low ok =
        let o = whole_of hs f.parts in
        let c = root_code (slot_of hs o) hs blocks f.parts b in
        let more = (root_longer hs (slot_of hs o) blocks f.parts b).more in
        Adds-trans plan b c (roots_code hs blocks fs c) (root_adds o f.parts b refl le low (ok 0 f refl))
        (roots_adds fs c (omega (arith, le, more)) (slots_below_more blocks b.slots c.slots more low) (λ k g e. ok (suc k) g e))

  pub blocks_more : (n : ℕ) (blocks : List ℕ) (d : ℕ) (x : Block) (xs : List Block) → BlocksOk n (length blocks) (x ∷ xs) → BlocksOk n (length (blocks ++ d ∷ [])) xs
  blocks_more n blocks d x xs ok k y e =
      let long = length-append blocks (d ∷ []) in
      let same : length blocks + suc k ≡ length (blocks ++ d ∷ []) + k = omega (arith, long) in
      subst (λ i. BlockOk n i y) same (ok (suc k) y e)

  pub first_block : (n : ℕ) (blocks : List ℕ) (x : Block) (xs : List Block) → BlocksOk n (length blocks) (x ∷ xs) → BlockOk n (length blocks) x
  first_block n blocks x xs ok = let z : length blocks + 0 ≡ length blocks = omega arith in subst (λ i. BlockOk n i x) z (ok 0 x refl)

  pub fresh_block : (blocks : List ℕ) (x : Block) (b : Sheet) → b.slots < (block_code hs blocks x b).slots
  fresh_block blocks x b = let q = (stores_longer hs blocks b.slots x.words 0 (with_more (with_slot b) (I.Place b.slots (size_of x) x.align))).more in omega (arith, q)

  pub blocks_adds : (plan : Plan) (n : ℕ) (xs : List Block) (blocks : List ℕ) (b : Sheet) → n ≤ b.slots → SlotsBelow blocks b.slots → BlocksOk n (length blocks) xs
      → Adds plan b (blocks_code hs xs blocks b).0 × SlotsBelow (blocks_code hs xs blocks b).1 (blocks_code hs xs blocks b).0.slots
  blocks_adds plan n [] blocks b le low ok = (Adds-refl plan b, low)
  blocks_adds plan n (x ∷ xs) blocks b le low ok =
      let c = block_code hs blocks x b in
      let more = (block_longer hs blocks x b).more in
      let rest = blocks_adds plan n xs (blocks ++ b.slots ∷ []) c (omega (arith, le, more)) (one_more_below blocks b.slots c.slots (fresh_block blocks x b) (slots_below_more blocks b.slots c.slots more low)) (blocks_more n blocks b.slots x xs ok) in
      (Adds-trans plan b c (blocks_code hs (x ∷ xs) blocks b).0 (block_adds plan n blocks x b le low (first_block n blocks x xs ok)) rest.0, rest.1)

  pub blocks_count : (xs : List Block) (blocks : List ℕ) (b : Sheet) → length (blocks_code hs xs blocks b).1 ≡ length blocks + length xs
  blocks_count [] blocks b = omega arith
  blocks_count (x ∷ xs) blocks b =
      let r = blocks_count xs (blocks ++ b.slots ∷ []) (block_code hs blocks x b) in let long = length-append blocks (b.slots ∷ []) in omega (arith, r, long)

  no_slots : (n : ℕ) → SlotsBelow [] n
  no_slots n j lt = absurd (omega (arith, lt))

  pub leaf_adds : (plan : Plan) (n : ℕ) (leaf : Leaf) (b : Sheet) → n ≤ b.slots → LeafOk n leaf → Adds plan b (leaf_code hs leaf b)
  leaf_adds plan n leaf b le ok =
      let c = blocks_code hs leaf.blocks [] b in
      let more = (blocks_longer hs leaf.blocks [] b).more in
      let first = blocks_adds plan n leaf.blocks [] b le (no_slots b.slots) ok.blocks in
      let count : length leaf.blocks ≡ length c.1 = (let r = blocks_count leaf.blocks [] b in omega (arith, r)) in
      Adds-trans plan b c.0 (leaf_code hs leaf b) first.0 (roots_adds plan n c.1 leaf.root c.0 (omega (arith, le, more)) first.1 (subst (λ i. WordsOk n i leaf.root) count ok.root))

  -- The slots of the value -----------------------------------------------------------------------

  pub roots_below : (blocks : List ℕ) (fs : List FlatWord) (b : Sheet) → AllBelow (roots_code hs blocks fs b).slots (root_slots hs blocks fs b)
  roots_below blocks [] b = tt
  roots_below blocks (f ∷ fs) b =
      let c = root_code (whole_slot hs f.parts) hs blocks f.parts b in
      let fresh = fresh_root hs (whole_slot hs f.parts) blocks f.parts b in
      let more = (roots_longer hs blocks fs c).more in (omega (arith, fresh, more), roots_below blocks fs c)

  pub roots_from : (blocks : List ℕ) (n : ℕ) (fs : List FlatWord) (b : Sheet) → n ≤ b.slots → AllFrom n (root_slots hs blocks fs b)
  roots_from blocks n [] b le = tt
  roots_from blocks n (f ∷ fs) b le =
      let more = (root_longer hs (whole_slot hs f.parts) blocks f.parts b).more in (le, roots_from blocks n fs (root_code (whole_slot hs f.parts) hs blocks f.parts b) (omega (arith, le, more)))

  pub roots_count : (blocks : List ℕ) (fs : List FlatWord) (b : Sheet) → length (root_slots hs blocks fs b) ≡ length fs
  roots_count blocks [] b = refl
  roots_count blocks (f ∷ fs) b = ap suc (roots_count blocks fs (root_code (whole_slot hs f.parts) hs blocks f.parts b))

  pub roots_distinct : (blocks : List ℕ) (fs : List FlatWord) (b : Sheet) → IsDistinct (root_slots hs blocks fs b)
  roots_distinct blocks [] b = tt
  roots_distinct blocks (f ∷ fs) b =
      let c = root_code (whole_slot hs f.parts) hs blocks f.parts b in
      let fresh = fresh_root hs (whole_slot hs f.parts) blocks f.parts b in
      (λ i. let le = one-from c.slots b.slots (root_slots hs blocks fs c) (roots_from blocks c.slots fs c (omega arith)) i in omega (arith, le, fresh), roots_distinct blocks fs c)
