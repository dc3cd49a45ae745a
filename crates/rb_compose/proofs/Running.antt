-- What the code of a construction does, run from any slots.
use Rattle.std.proofs.Common.{◌≡◌, ℕ, suc, ◌+◌, ◌-◌, ◌/◌, ◌%◌, ◌^◌, ◌<◌, ◌≤◌, ◌==◌, inl, inr, Bool, true, false, map, List, [], ◌∷◌, ◌++◌, length, Option, Some, None, Result, refl, sym, subst, ap, ◌∙◌, arith, length-append}
use Rattle.std.specs.Prelude.{bit_or, slice_get, slice_index, slice_set, if◌then◌else◌}
use Rattle.std.proofs.lemmas.Bool.Decides.{leb_tells}
use Rattle.rb_bits.specs.Words.{take_of, put_of}
use Rattle.rb_bytes.specs.Memory.{Memory, IsGood, least_multiple, place_of, store_of, size_at, lies_within, write_le}
use Rattle.rb_bytes.specs.declared.fault.Full.{Full}
use Rattle.rb_bytes.specs.declared.fault.Trap.{Trap}
use Rattle.rb_bytes.proofs.BlockLemmas.{size_at-push}
use Rattle.rb_bytes.proofs.MemoryLemmas.{store_within, placed_is, full_is}
use Rattle.rb_target.specs.declared.instr.AluOp.TheVariants.{Or}
use Rattle.rb_target.specs.declared.instr.Instr.{Instr}
use Rattle.rb_target.specs.declared.instr.Instr.TheVariants as I
use Rattle.rb_target.specs.declared.outcome.End.TheVariants.{Full as Filled}
use Rattle.rb_target.specs.Growth.{AgreesBut, Keeps, Nowhere}
use Rattle.rb_target.specs.Laws.{Law}
use Rattle.rb_target.specs.Meaning.{World, CallEnd as Run, Next, Callee, act, taken, over, slots_at, with_memory, after_store, after_place}
use Rattle.rb_target.specs.Sheet.{Sheet, with_more, with_slot}
use Rattle.rb_target.proofs.Growing.{Agrees-part, Grows-refl, Keeps-refl, Keeps-set, Keeps-trans, get-seam}
use Rattle.rb_layout.specs.declared.layout.Block.{Block}
use Rattle.rb_layout.specs.declared.layout.FlatWord.{FlatWord}
use Rattle.rb_layout.specs.declared.layout.Kind.{Kind}
use Rattle.rb_layout.specs.declared.layout.Kind.TheVariants.{Const, Bits, Word, Pointer}
use Rattle.rb_layout.specs.declared.layout.Part.{Part}
use Rattle.rb_layout.specs.A4.{IsBlockWidth}
use Rattle.rb_layout.specs.Words.{bytes_taken, size_of}
use Rattle.rb_compose.specs.declared.subvalue.Subvalue.{Subvalue}
use Rattle.rb_fragment.proofs.Steps.{set_same}
use Rattle.rb_rel.proofs.Storing.{IsBlock, above}
use Rattle.rb_rel.specs.Storing.{with_words, with_block}
use Rattle.rb_compose.specs.Counts.{capped_bits}
use Rattle.rb_compose.specs.inner.Code.{after_constants, begun_code, block_code, constants, field_slots, is_low, is_ready, joined_code, kind_code, low_bit, part_code, parts_code, put_code, root_code, root_slots, roots_code, shift_of, slot_of, source_slot, stores_code, taken_code, taken_slot, value_code, value_slot, whole_of, word_code}
use Rattle.rb_compose.proofs.Longer.{IsLonger, begun_by, fresh_root, from_code, joined_by, longer-fresh, low_by, longer-push, part_by, part_longer, parts_longer, root_longer, roots_longer, store_longer, stored_code, stores_longer, taken_longer, value_longer, word_by}
use Rattle.rb_compose.proofs.Numbers.{other_kind, taken_value}
use Rattle.rb_compose.proofs.Beside.{begun_number, composed_number, joined_number, low_number, source_word, with_readies, with_ready, word_number}
use Rattle.rb_compose.proofs.Skipping.{each_after}
use Rattle.rb_compose.proofs.Wholes.{HasWhole, is_whole}

-- the finished code has what stands from the end of b to that of c
abbrev pub Stands : List Instr → Sheet → Sheet → Type 0
Stands final b c = AgreesBut final c.code (length b.code) (length c.code) Nowhere

pub stands_first : (final : List Instr) (b c d : Sheet) → IsLonger b c → IsLonger c d → Stands final b d → Stands final b c
stands_first final b c d x y s =
    let l = y.grows.longer in
    Agrees-part final d.code c.code (length b.code) (length d.code) (length b.code) (length c.code) Nowhere Nowhere y.grows (omega arith) (omega (arith, l)) (omega arith) (λ pc lo hi z. z) s

pub stands_rest : (final : List Instr) (b c d : Sheet) → IsLonger b c → Stands final b d → Stands final c d
stands_rest final b c d x s =
    let l = x.grows.longer in
    Agrees-part final d.code d.code (length b.code) (length d.code) (length c.code) (length d.code) Nowhere Nowhere (Grows-refl d.code) (omega (arith, l)) (omega arith) (omega arith) (λ pc lo hi z. z) s

stands_here : (final : List Instr) (b c : Sheet) (i : Instr) → c.code ≡ b.code ++ i ∷ [] → Stands final b c → slice_get final (length b.code) ≡ Some i
stands_here final b c i is s =
    let long : length c.code ≡ length b.code + 1 = ap length is ∙ length-append b.code (i ∷ []) in
    s.same (length b.code) (omega arith) (omega (arith, long)) (λ z. z) ∙ ap (λ code. slice_get code (length b.code)) is ∙ get-seam b.code i []

module _ (final : List Instr) (callee : Callee) (next : Next) (law : Law final callee next) where
  -- From the end of b the run comes to that of c, with this memory and these slots; the first n are kept.
  pub record Runs (n : ℕ) (b c : Sheet) (s : List ℕ) (w : World) (m : Memory) (Post : List ℕ → Type 0) : Type 0 where
    pub slots : List ℕ
    pub world : World
    pub ran : next (length b.code) s w ≡ next (length c.code) slots world
    pub keeps : Keeps n s slots
    pub memory : world.memory ≡ m
    pub left : world.left ≡ w.left
    pub switches : world.switches ≤ w.switches
    pub post : Post slots

  -- no code
  pub runs_none : (n : ℕ) (b : Sheet) (s : List ℕ) (w : World) (m : Memory) (Post : List ℕ → Type 0) → w.memory ≡ m → Post s → Runs n b b s w m Post
  runs_none n b s w m Post is post = record { slots = s; world = w; ran = refl; keeps = Keeps-refl n s; memory = is; left = refl; switches = omega arith; post = post }

  -- fewer slots kept, and less said of them
  pub runs_weaken : (n n' : ℕ) (b c : Sheet) (s : List ℕ) (w : World) (m m' : Memory) (P Q : List ℕ → Type 0) → n' ≤ n → m ≡ m' → ((s' : List ℕ) → Keeps n s s' → P s' → Q s') → Runs n b c s w m P → Runs n' b c s w m' Q
  runs_weaken n n' b c s w m m' P Q le is f r = record {
    slots = r.slots;
    world = r.world;
    ran = r.ran;
    keeps = record { long = r.keeps.long; same = λ k lt. r.keeps.same k (omega (arith, lt, le)) };
    memory = r.memory ∙ is;
    left = r.left;
    switches = r.switches;
    post = f r.slots r.keeps r.post;
  }

  -- one behind the other, the second with no fewer slots kept
  pub runs_then : (n k : ℕ) (b c d : Sheet) (s : List ℕ) (w : World) (m m' : Memory) (P Q : List ℕ → Type 0) → n ≤ k → Runs n b c s w m P
      → ((s1 : List ℕ) (w1 : World) → w1.memory ≡ m → Keeps n s s1 → P s1 → Runs k c d s1 w1 m' Q) → Runs n b d s w m' Q
  runs_then n k b c d s w m m' P Q le r go =
      let q = go r.slots r.world r.memory r.keeps r.post in
      record {
        slots = q.slots;
        world = q.world;
        ran = r.ran ∙ q.ran;
        keeps = Keeps-trans n k s r.slots q.slots le r.keeps q.keeps;
        memory = q.memory;
        left = q.left ∙ r.left;
        switches = (let x = q.switches in let y = r.switches in omega (arith, x, y));
        post = q.post;
      }

  -- one instruction that writes a slot
  runs_set : (n : ℕ) (b c : Sheet) (i : Instr) (d word : ℕ) (s : List ℕ) (w : World) (m : Memory) → c.code ≡ b.code ++ i ∷ [] → Stands final b c → n ≤ d → w.memory ≡ m
      → act i next callee (length b.code) s (taken w) ≡ next (length b.code + 1) (slice_set s d word) (taken w) → Runs n b c s w m (λ s'. s' ≡ slice_set s d word)
  runs_set n b c i d word s w m code stands le is acts =
      let long : length c.code ≡ length b.code + 1 = ap length code ∙ length-append b.code (i ∷ []) in
      record {
        slots = slice_set s d word;
        world = taken w;
        ran = law.step (length b.code) i s w (stands_here final b c i code stands) ∙ acts ∙ ap (λ k. next k (slice_set s d word) (taken w)) (sym long);
        keeps = Keeps-set n s d word le;
        memory = is;
        left = refl;
        switches = omega arith;
        post = refl;
      }

  module _ (hs : List Subvalue) (field : List ℕ → ℕ → ℕ) (ats : ℕ → ℕ) where
    -- the slots from which a part is taken are below n
    abbrev pub IsBelow : List ℕ → ℕ → Kind → Type 0
    IsBelow blocks n (Const c) = Unit {0}
    IsBelow blocks n (Bits path a) = slice_index (field_slots hs path) 0 < n
    IsBelow blocks n (Word path j) = slice_index (field_slots hs path) j < n
    IsBelow blocks n (Pointer align x) = slice_index blocks x < n

    -- they hold the fields' words and the blocks' addresses
    abbrev pub Tells : List ℕ → List ℕ → Kind → Type 0
    Tells blocks s (Const c) = Unit {0}
    Tells blocks s (Bits path a) = slice_index s (slice_index (field_slots hs path) 0) ≡ field path 0
    Tells blocks s (Word path j) = slice_index s (slice_index (field_slots hs path) j) ≡ field path j
    Tells blocks s (Pointer align x) = slice_index s (slice_index blocks x) ≡ ats x

    pub below_more : (blocks : List ℕ) (n n' : ℕ) (kind : Kind) → n ≤ n' → IsBelow blocks n kind → IsBelow blocks n' kind
    below_more blocks n n' (Const c) le h = tt
    below_more blocks n n' (Bits path a) le h = omega (arith, le, h)
    below_more blocks n n' (Word path j) le h = omega (arith, le, h)
    below_more blocks n n' (Pointer align x) le h = omega (arith, le, h)

    pub tells_kept : (blocks : List ℕ) (n : ℕ) (s s' : List ℕ) (kind : Kind) → Keeps n s s' → IsBelow blocks n kind → Tells blocks s kind → Tells blocks s' kind
    tells_kept blocks n s s' (Const c) k lt h = tt
    tells_kept blocks n s s' (Bits path a) k lt h = k.same _ lt ∙ h
    tells_kept blocks n s s' (Word path j) k lt h = k.same _ lt ∙ h
    tells_kept blocks n s s' (Pointer align x) k lt h = k.same _ lt ∙ h

    abbrev pub AllBelow : List ℕ → ℕ → List Part → Type 0
    AllBelow blocks n ps = (k : ℕ) (p : Part) → slice_get ps k ≡ Some p → IsBelow blocks n p.kind

    abbrev pub AllTell : List ℕ → List ℕ → List Part → Type 0
    AllTell blocks s ps = (k : ℕ) (p : Part) → slice_get ps k ≡ Some p → Tells blocks s p.kind

    abbrev pub number : FlatWord → ℕ
    number f = word_number hs field ats (whole_of hs f.parts) f.parts

    -- bits of a slot from bit 0 of a slot on
    taken_by : (t : Bool) (x from long v : ℕ) (b : Sheet) (s : List ℕ) (w : World) (m : Memory) → Stands final b (if t then b else with_more (with_slot b) (I.Take b.slots x from long)) → w.memory ≡ m
        → (if t then b else with_more (with_slot b) (I.Take b.slots x from long)).slots ≤ length s → slice_index s x ≡ v
        → Runs b.slots b (if t then b else with_more (with_slot b) (I.Take b.slots x from long)) s w m (λ s'. slice_index s' (if t then x else b.slots) ≡ (if t then v else take_of v from long))
    taken_by true x from long v b s w m stands is room there = runs_none b.slots b s w m (λ s'. slice_index s' x ≡ v) is there
    taken_by false x from long v b s w m stands is room there =
        let c = with_more (with_slot b) (I.Take b.slots x from long) in
        let word = take_of (slice_index s x) from long in
        runs_weaken b.slots b.slots b c s w m m (λ s'. s' ≡ slice_set s b.slots word) (λ s'. slice_index s' b.slots ≡ take_of v from long) (omega arith) refl
        (λ s' k e. ap (λ y. slice_index y b.slots) e ∙ set_same s b.slots word (omega (arith, room)) ∙ ap (λ y. take_of y from long) there)
        (runs_set b.slots b c (I.Take b.slots x from long) b.slots word s w m refl stands (omega arith) is refl)

    -- bits of a slot put over what stands in slot d
    put_run : (d x from long v : ℕ) (p : Part) (b : Sheet) (s : List ℕ) (w : World) (m : Memory) → Stands final b (put_code d x from long p b) → w.memory ≡ m → d < b.slots → (put_code d x from long p b).slots ≤ length s → slice_index s x ≡ v
        → Runs d b (put_code d x from long p b) s w m (λ s'. slice_index s' d ≡ put_of (slice_index s d) (capped_bits p.o) (capped_bits p.l) (taken_value v from long % 2 ^ capped_bits p.l))
    put_run d x from long v p b s w m stands is lt room there =
        let c = taken_code x from long b in
        let low = taken_slot x from b.slots in
        let put = I.Put d low (capped_bits p.o) (capped_bits p.l) in
        let u = taken_value v from long in
        let more = taken_longer x from long b in
        let first = taken_by (from == 0) x from long v b s w m (stands_first final b c (with_more c put) more (longer-push c put) stands) is room there in
        runs_then d d b c (with_more c put) s w m m (λ s'. (slice_index s' low ≡ u) × (slice_index s' d ≡ slice_index s d) × (length s' ≡ length s)) (λ s'. slice_index s' d ≡ put_of (slice_index s d) (capped_bits p.o) (capped_bits p.l) (u % 2 ^ capped_bits p.l)) (omega arith)
        (runs_weaken b.slots d b c s w m m (λ s'. slice_index s' low ≡ u) (λ s'. (slice_index s' low ≡ u) × (slice_index s' d ≡ slice_index s d) × (length s' ≡ length s)) (omega (arith, lt)) refl (λ s' k e. (e, k.same d lt, k.long)) first)
        (λ s1 w1 is1 k1 e1.
        let word = put_of (slice_index s1 d) (capped_bits p.o) (capped_bits p.l) (slice_index s1 low % 2 ^ capped_bits p.l) in
        let within : d < length s1 = (let y = e1.2 in let q = more.more in omega (arith, lt, room, y, q)) in
        runs_weaken d d c (with_more c put) s1 w1 m m (λ s'. s' ≡ slice_set s1 d word) (λ s'. slice_index s' d ≡ put_of (slice_index s d) (capped_bits p.o) (capped_bits p.l) (u % 2 ^ capped_bits p.l)) (omega arith) refl
        (λ s' k e. ap (λ y. slice_index y d) e ∙ set_same s1 d word within ∙ ap (λ y. put_of y (capped_bits p.o) (capped_bits p.l) (slice_index s1 low % 2 ^ capped_bits p.l)) e1.1 ∙ ap (λ y. put_of (slice_index s d) (capped_bits p.o) (capped_bits p.l) (y % 2 ^ capped_bits p.l)) e1.0)
        (runs_set d c (with_more c put) put d word s1 w1 m refl (stands_rest final b c (with_more c put) more stands) (omega arith) is1 refl))

    module _ (blocks : List ℕ) where
      kind_run : (d : ℕ) (p : Part) (kind : Kind) (b : Sheet) (s : List ℕ) (w : World) (m : Memory) → Stands final b (kind_code hs blocks d p kind b) → w.memory ≡ m → d < b.slots → (kind_code hs blocks d p kind b).slots ≤ length s
          → Tells blocks s kind → Runs d b (kind_code hs blocks d p kind b) s w m (λ s'. slice_index s' d ≡ other_kind field ats (slice_index s d) p kind)
      kind_run d p (Const c) b s w m stands is lt room tells = runs_none d b s w m (λ s'. slice_index s' d ≡ slice_index s d) is refl
      kind_run d p (Bits path a) b s w m stands is lt room tells = put_run d (slice_index (field_slots hs path) 0) (capped_bits a) (capped_bits p.l) (field path 0) p b s w m stands is lt room tells
      kind_run d p (Word path j) b s w m stands is lt room tells = put_run d (slice_index (field_slots hs path) j) 0 64 (field path j) p b s w m stands is lt room tells
      kind_run d p (Pointer align x) b s w m stands is lt room tells = put_run d (slice_index blocks x) (shift_of align) (64 - shift_of align) (ats x) p b s w m stands is lt room tells

      -- a part that stands in its place is there
      source_tells : (o l : ℕ) (kind : Kind) (s : List ℕ) → is_ready hs o l kind ≡ true → Tells blocks s kind → slice_index s (source_slot hs blocks kind) ≡ source_word hs field ats kind
      source_tells o l (Const c) s e t = absurd cc
      source_tells o l (Bits path a) s e t = t
      source_tells o l (Word path j) s e t = t
      source_tells o l (Pointer align x) s e t = t

      low_tells : (o : ℕ) (kind : Kind) (s : List ℕ) → is_low o kind ≡ true → Tells blocks s kind → slice_index s (source_slot hs blocks kind) ≡ source_word hs field ats kind
      low_tells o (Const c) s e t = absurd cc
      low_tells o (Bits path a) s e t = t
      low_tells o (Word path j) s e t = absurd cc
      low_tells o (Pointer align x) s e t = absurd cc

      part_run : (d : ℕ) (p : Part) (b : Sheet) (s : List ℕ) (w : World) (m : Memory) → Stands final b (part_code hs blocks d p b) → w.memory ≡ m → d < b.slots → (part_code hs blocks d p b).slots ≤ length s
          → Tells blocks s p.kind → Runs d b (part_code hs blocks d p b) s w m (λ s'. slice_index s' d ≡ with_ready hs field ats (slice_index s d) p)
      part_run d p b s w m stands is lt room tells = by (is_ready hs p.o p.l p.kind) refl stands room
        where
          by : (t : Bool) → is_ready hs p.o p.l p.kind ≡ t → Stands final b (part_by hs blocks d p b t) → (part_by hs blocks d p b t).slots ≤ length s
              → Runs d b (part_by hs blocks d p b t) s w m
              (λ s'. slice_index s' d ≡ (if t then bit_or (slice_index s d) (source_word hs field ats p.kind) % 2 ^ 64 else other_kind field ats (slice_index s d) p p.kind))
          by true e stands1 room1 =
              let or = I.Alu Or 64 d d (source_slot hs blocks p.kind) in
              let n = slice_index s d in
              let word = bit_or n (slice_index s (source_slot hs blocks p.kind)) % 2 ^ 64 in
              runs_weaken d d b (with_more b or) s w m m (λ s'. s' ≡ slice_set s d word) (λ s'. slice_index s' d ≡ bit_or n (source_word hs field ats p.kind) % 2 ^ 64) (omega arith) refl
              (λ s' k h. ap (λ y. slice_index y d) h ∙ set_same s d word (omega (arith, lt, room1)) ∙ ap (λ y. bit_or n y % 2 ^ 64) (source_tells p.o p.l p.kind s e tells))
              (runs_set d b (with_more b or) or d word s w m refl stands1 (omega arith) is refl)
          by false e stands1 room1 = kind_run d p p.kind b s w m stands1 is lt room1 tells

      parts_run : (d : ℕ) (ps : List Part) (b : Sheet) (s : List ℕ) (w : World) (m : Memory) → Stands final b (parts_code hs blocks d ps b) → w.memory ≡ m → d < b.slots → (parts_code hs blocks d ps b).slots ≤ length s
          → AllBelow blocks d ps → AllTell blocks s ps → Runs d b (parts_code hs blocks d ps b) s w m (λ s'. slice_index s' d ≡ with_readies hs field ats (slice_index s d) ps)
      parts_run d [] b s w m stands is lt long below tells = runs_none d b s w m (λ s'. slice_index s' d ≡ slice_index s d) is refl
      parts_run d (p ∷ ps) b s w m stands is lt long below tells =
          let c = part_code hs blocks d p b in
          let e = parts_code hs blocks d ps c in
          let x = part_longer hs blocks d p b in
          let y = parts_longer hs blocks d ps c in
          let n1 = with_ready hs field ats (slice_index s d) p in
          let long1 : c.slots ≤ length s = (let q = y.more in omega (arith, q, long)) in
          let first = part_run d p b s w m (stands_first final b c e x y stands) is lt long1 (tells 0 p refl) in
          runs_then d d b c e s w m m (λ s'. (slice_index s' d ≡ n1) × (length s' ≡ length s)) (λ s'. slice_index s' d ≡ with_readies hs field ats n1 ps) (omega arith)
          (runs_weaken d d b c s w m m (λ s'. slice_index s' d ≡ n1) (λ s'. (slice_index s' d ≡ n1) × (length s' ≡ length s)) (omega arith) refl (λ s' k h. (h, k.long)) first)
          (λ s1 w1 is1 k1 e1.
          let lt1 : d < c.slots = (let q = x.more in omega (arith, lt, q)) in
          let long2 : e.slots ≤ length s1 = (let q = e1.1 in omega (arith, long, q)) in
          runs_weaken d d c e s1 w1 m m (λ s'. slice_index s' d ≡ with_readies hs field ats (slice_index s1 d) ps) (λ s'. slice_index s' d ≡ with_readies hs field ats n1 ps) (omega arith) refl
          (λ s' k h. h ∙ ap (λ n. with_readies hs field ats n ps) e1.0)
          (parts_run d ps c s1 w1 m (stands_rest final b c e x stands) is1 lt1 long2 (λ k q at. below (suc k) q at) (λ k q at. tells_kept blocks d s s1 q.kind k1 (below (suc k) q at) (tells (suc k) q at))))

      -- an instruction that writes a word into the first new slot, and parts
      from_run : (i : Instr) (v : ℕ) (ps : List Part) (b : Sheet) (s : List ℕ) (w : World) (m : Memory) → act i next callee (length b.code) s (taken w) ≡ next (length b.code + 1) (slice_set s b.slots v) (taken w)
          → Stands final b (from_code hs blocks i ps b) → w.memory ≡ m → (from_code hs blocks i ps b).slots ≤ length s → AllBelow blocks b.slots ps → AllTell blocks s ps
          → Runs b.slots b (from_code hs blocks i ps b) s w m (λ s'. slice_index s' b.slots ≡ with_readies hs field ats v ps)
      from_run i v ps b s w m acts stands is long below tells =
          let d = b.slots in
          let c = with_more (with_slot b) i in
          let e = from_code hs blocks i ps b in
          let x = longer-fresh b i in
          let y = parts_longer hs blocks d ps c in
          let inside : d < length s = (let q = y.more in omega (arith, q, long)) in
          runs_then d d b c e s w m m (λ s'. s' ≡ slice_set s d v) (λ s'. slice_index s' d ≡ with_readies hs field ats v ps) (omega arith)
          (runs_set d b c i d v s w m refl (stands_first final b c e x y stands) (omega arith) is acts)
          (λ s1 w1 is1 k1 e1.
          let there : slice_index s1 d ≡ v = ap (λ z. slice_index z d) e1 ∙ set_same s d v inside in
          runs_weaken d d c e s1 w1 m m (λ s'. slice_index s' d ≡ with_readies hs field ats (slice_index s1 d) ps) (λ s'. slice_index s' d ≡ with_readies hs field ats v ps) (omega arith) refl
          (λ s' k h. h ∙ ap (λ n. with_readies hs field ats n ps) there)
          (parts_run d ps c s1 w1 m (stands_rest final b c e x stands) is1 (omega arith) (let q = k1.long in omega (arith, long, q)) below (λ k q at. tells_kept blocks d s s1 q.kind k1 (below k q at) (tells k q at))))

      -- a word of what a slot holds, and of parts
      joined_run : (x v : ℕ) (ps : List Part) (b : Sheet) (s : List ℕ) (w : World) (m : Memory) → slice_index s x ≡ v → Stands final b (joined_code hs blocks x ps b) → w.memory ≡ m → (joined_code hs blocks x ps b).slots ≤ length s
          → AllBelow blocks b.slots ps → AllTell blocks s ps → Runs b.slots b (joined_code hs blocks x ps b) s w m (λ s'. slice_index s' b.slots ≡ joined_number hs field ats v ps)
      joined_run x v [] b s w m there stands is long below tells =
          from_run (I.Copy b.slots x) v [] b s w m (ap (λ y. next (length b.code + 1) (slice_set s b.slots y) (taken w)) there) stands is long below tells
      joined_run x v (p ∷ ps) b s w m there stands is long below tells = by (is_ready hs p.o p.l p.kind) refl stands long
        where
          by : (t : Bool) → is_ready hs p.o p.l p.kind ≡ t → Stands final b (joined_by hs blocks x p ps b t) → (joined_by hs blocks x p ps b t).slots ≤ length s
              → Runs b.slots b (joined_by hs blocks x p ps b t) s w m
              (λ s'. slice_index s' b.slots ≡ (if t then with_readies hs field ats (bit_or v (source_word hs field ats p.kind) % 2 ^ 64) ps else with_readies hs field ats v (p ∷ ps)))
          by true e stands1 long1 =
              let y = source_slot hs blocks p.kind in
              let u = source_word hs field ats p.kind in
              let both : bit_or (slice_index s x) (slice_index s y) % 2 ^ 64 ≡ bit_or v u % 2 ^ 64 =
              ap (λ i. bit_or i (slice_index s y) % 2 ^ 64) there ∙ ap (λ i. bit_or v i % 2 ^ 64) (source_tells p.o p.l p.kind s e (tells 0 p refl)) in
              from_run (I.Alu Or 64 b.slots x y) (bit_or v u % 2 ^ 64) ps b s w m (ap (λ i. next (length b.code + 1) (slice_set s b.slots i) (taken w)) both) stands1 is long1 (λ k q at. below (suc k) q at) (λ k q at. tells (suc k) q at)
          by false e stands1 long1 =
              from_run (I.Copy b.slots x) v (p ∷ ps) b s w m (ap (λ i. next (length b.code + 1) (slice_set s b.slots i) (taken w)) there) stands1 is long1 below tells

      -- a word without constants
      begun_run : (ps : List Part) (b : Sheet) (s : List ℕ) (w : World) (m : Memory) → Stands final b (begun_code hs blocks ps b) → w.memory ≡ m → (begun_code hs blocks ps b).slots ≤ length s
          → AllBelow blocks b.slots ps → AllTell blocks s ps → Runs b.slots b (begun_code hs blocks ps b) s w m (λ s'. slice_index s' b.slots ≡ begun_number hs field ats ps)
      begun_run [] b s w m stands is long below tells = from_run (I.Const b.slots 0) 0 [] b s w m refl stands is long below tells
      begun_run (p ∷ ps) b s w m stands is long below tells = by (is_ready hs p.o p.l p.kind) refl stands long
        where
          by : (t : Bool) → is_ready hs p.o p.l p.kind ≡ t → Stands final b (begun_by hs blocks p ps b t) → (begun_by hs blocks p ps b t).slots ≤ length s
              → Runs b.slots b (begun_by hs blocks p ps b t) s w m
              (λ s'. slice_index s' b.slots ≡ (if t then joined_number hs field ats (source_word hs field ats p.kind) (after_constants ps) else low_number hs field ats p ps (is_low p.o p.kind)))
          by true e stands1 long1 =
              joined_run (source_slot hs blocks p.kind) (source_word hs field ats p.kind) (after_constants ps) b s w m (source_tells p.o p.l p.kind s e (tells 0 p refl)) stands1 is long1
              (each_after (λ (q : Part). IsBelow blocks b.slots q.kind) ps (λ k q at. below (suc k) q at)) (each_after (λ (q : Part). Tells blocks s q.kind) ps (λ k q at. tells (suc k) q at))
          by false e stands1 long1 = from_low (is_low p.o p.kind) refl stands1 long1
            where
              from_low : (t : Bool) → is_low p.o p.kind ≡ t → Stands final b (low_by hs blocks p ps b t) → (low_by hs blocks p ps b t).slots ≤ length s
                  → Runs b.slots b (low_by hs blocks p ps b t) s w m (λ s'. slice_index s' b.slots ≡ low_number hs field ats p ps t)
              from_low true h stands2 long2 =
                  let x = source_slot hs blocks p.kind in
                  let take : ℕ → ℕ = λ i. take_of i (low_bit p.kind) (capped_bits p.l) in
                  from_run (I.Take b.slots x (low_bit p.kind) (capped_bits p.l)) (take (source_word hs field ats p.kind)) ps b s w m
                  (ap (λ i. next (length b.code + 1) (slice_set s b.slots (take i)) (taken w)) (low_tells p.o p.kind s h (tells 0 p refl))) stands2 is long2 (λ k q at. below (suc k) q at) (λ k q at. tells (suc k) q at)
              from_low false h stands2 long2 = from_run (I.Const b.slots 0) 0 (p ∷ ps) b s w m refl stands2 is long2 below tells

      -- a composed word
      word_run : (ps : List Part) (b : Sheet) (s : List ℕ) (w : World) (m : Memory) → Stands final b (word_code hs blocks ps b) → w.memory ≡ m → (word_code hs blocks ps b).slots ≤ length s
          → AllBelow blocks b.slots ps → AllTell blocks s ps → Runs b.slots b (word_code hs blocks ps b) s w m (λ s'. slice_index s' b.slots ≡ composed_number hs field ats ps)
      word_run ps b s w m stands is long below tells = by (constants 0 ps == 0) stands long
        where
          by : (t : Bool) → Stands final b (word_by hs blocks ps b t) → (word_by hs blocks ps b t).slots ≤ length s
              → Runs b.slots b (word_by hs blocks ps b t) s w m
              (λ s'. slice_index s' b.slots ≡ (if t then begun_number hs field ats (after_constants ps) else with_readies hs field ats (constants 0 ps) ps))
          by true stands1 long1 =
              begun_run (after_constants ps) b s w m stands1 is long1 (each_after (λ (q : Part). IsBelow blocks b.slots q.kind) ps below) (each_after (λ (q : Part). Tells blocks s q.kind) ps tells)
          by false stands1 long1 = from_run (I.Const b.slots (constants 0 ps)) (constants 0 ps) ps b s w m refl stands1 is long1 below tells

      -- a word that is a field's stands there
      whole_tells : (ps : List Part) (s : List ℕ) (w : List ℕ × ℕ) → whole_of hs ps ≡ Some w → AllTell blocks s ps → slice_index s (slice_index (field_slots hs w.0) w.1) ≡ field w.0 w.1
      whole_tells ps s w e tells = let h = is_whole hs ps w e in by h.part.l h.part.kind h.has (tells 0 h.part (ap (λ xs. slice_get xs 0) h.only))
        where
          by : (l : ℕ) (kind : Kind) → HasWhole hs l kind w → Tells blocks s kind → slice_index s (slice_index (field_slots hs w.0) w.1) ≡ field w.0 w.1
          by l kind (inl h) t = subst (Tells blocks s) h t
          by l kind (inr h) t =
              let u : slice_index s (slice_index (field_slots hs w.0) 0) ≡ field w.0 0 = subst (Tells blocks s) h.0 t in
              ap (λ j. slice_index s (slice_index (field_slots hs w.0) j)) h.1 ∙ u ∙ ap (field w.0) (sym h.1)

      -- a word to be stored
      value_run : (o : Option (List ℕ × ℕ)) (ps : List Part) (b : Sheet) (s : List ℕ) (w : World) (m : Memory) → whole_of hs ps ≡ o → Stands final b (value_code (slot_of hs o) hs blocks ps b) → w.memory ≡ m
          → (value_code (slot_of hs o) hs blocks ps b).slots ≤ length s → AllBelow blocks b.slots ps → AllTell blocks s ps
          → Runs b.slots b (value_code (slot_of hs o) hs blocks ps b) s w m (λ s'. slice_index s' (value_slot (slot_of hs o) b.slots) ≡ word_number hs field ats o ps)
      value_run None ps b s w m e stands is long below tells = word_run ps b s w m stands is long below tells
      value_run (Some x) ps b s w m e stands is long below tells = runs_none b.slots b s w m (λ s'. slice_index s' (slice_index (field_slots hs x.0) x.1) ≡ field x.0 x.1) is (whole_tells ps s x e tells)

      -- a word of the value
      root_run : (o : Option (List ℕ × ℕ)) (ps : List Part) (b : Sheet) (s : List ℕ) (w : World) (m : Memory) → whole_of hs ps ≡ o → Stands final b (root_code (slot_of hs o) hs blocks ps b) → w.memory ≡ m
          → (root_code (slot_of hs o) hs blocks ps b).slots ≤ length s → AllBelow blocks b.slots ps → AllTell blocks s ps
          → Runs b.slots b (root_code (slot_of hs o) hs blocks ps b) s w m (λ s'. slice_index s' b.slots ≡ word_number hs field ats o ps)
      root_run None ps b s w m e stands is long below tells = word_run ps b s w m stands is long below tells
      root_run (Some x) ps b s w m e stands is long below tells =
          let from = slice_index (field_slots hs x.0) x.1 in
          let word = slice_index s from in
          let c = with_more (with_slot b) (I.Copy b.slots from) in
          runs_weaken b.slots b.slots b c s w m m (λ s'. s' ≡ slice_set s b.slots word) (λ s'. slice_index s' b.slots ≡ field x.0 x.1) (omega arith) refl
          (λ s' k h. ap (λ y. slice_index y b.slots) h ∙ set_same s b.slots word (omega (arith, long)) ∙ whole_tells ps s x e tells)
          (runs_set b.slots b c (I.Copy b.slots from) b.slots word s w m refl stands (omega arith) is refl)

    -- Words stored -------------------------------------------------------------------------------
    abbrev pub WordsBelow : List ℕ → ℕ → List FlatWord → Type 0
    WordsBelow blocks n fs = (k : ℕ) (f : FlatWord) → slice_get fs k ≡ Some f → AllBelow blocks n f.parts

    abbrev pub WordsTell : List ℕ → List ℕ → List FlatWord → Type 0
    WordsTell blocks s fs = (k : ℕ) (f : FlatWord) → slice_get fs k ≡ Some f → AllTell blocks s f.parts

    width_capped : (w : ℕ) → IsBlockWidth w → capped_bits w ≡ w
    width_capped w (inl e) = omega (arith, e)
    width_capped w (inr (inl e)) = omega (arith, e)
    width_capped w (inr (inr (inl e))) = omega (arith, e)
    width_capped w (inr (inr (inr e))) = omega (arith, e)

    within_yes : (o : Option ℕ) (size to : ℕ) → o ≡ Some size → to ≤ size → lies_within o to ≡ true
    within_yes o size to is le = ap (λ x. lies_within x to) is ∙ elim (leb_tells to size) [ inl h ↦ h.0 | inr h ↦ absurd (omega (arith, h.1, le)) ]

    abbrev stored : Memory → ℕ → ℕ → FlatWord → Memory
    stored m base at f = record m { bytes = write_le m.bytes (f.width / 8) (base + at) (number f) }

    module _ (blocks : List ℕ) where
      store_run : (n a base size at : ℕ) (f : FlatWord) (b : Sheet) (s : List ℕ) (w : World) (m : Memory) → Stands final b (stored_code hs blocks a at f b) → w.memory ≡ m
          → (stored_code hs blocks a at f b).slots ≤ length s → n ≤ b.slots → a < n → slice_index s a ≡ base → size_at m.blocks base ≡ Some size → at + f.width / 8 ≤ size → IsBlockWidth f.width
          → AllBelow blocks n f.parts → AllTell blocks s f.parts
          → Runs n b (stored_code hs blocks a at f b) s w (stored m base at f) (λ s'. Unit {0})
      store_run n a base size at f b s w m stands is long le lt there sized room wide below tells =
          let o = whole_of hs f.parts in
          let c = value_code (slot_of hs o) hs blocks f.parts b in
          let slot = value_slot (slot_of hs o) b.slots in
          let store = I.Store a at (capped_bits f.width) slot in
          let e = with_more c store in
          let x = value_longer hs (slot_of hs o) blocks f.parts b in
          let v = number f in
          let first = value_run blocks o f.parts b s w m refl (stands_first final b c e x (longer-push c store) stands) is long (λ k p h. below_more blocks n b.slots p.kind le (below k p h)) tells in
          runs_then n n b c e s w m (stored m base at f) (λ s'. slice_index s' slot ≡ v) (λ s'. Unit {0}) (omega arith)
          (runs_weaken b.slots n b c s w m m (λ s'. slice_index s' slot ≡ v) (λ s'. slice_index s' slot ≡ v) le refl (λ s' k h. h) first)
          (λ s1 w1 is1 k1 e1.
          let P : Result (Unit {0}) Trap × Memory → Run = λ r. after_store r.0 (with_memory (taken w1) r.1) (next (length c.code + 1) s1 (with_memory (taken w1) r.1)) in
          let same : store_of w1.memory (slice_index s1 a) at (capped_bits f.width) (slice_index s1 slot) ≡ store_of m base at f.width v =
          ap (λ y. store_of y (slice_index s1 a) at (capped_bits f.width) (slice_index s1 slot)) is1
          ∙ ap (λ y. store_of m y at (capped_bits f.width) (slice_index s1 slot)) (k1.same a lt ∙ there)
          ∙ ap (λ y. store_of m base at y (slice_index s1 slot)) (width_capped f.width wide) ∙ ap (store_of m base at f.width) e1 in
          let done = store_within m base at f.width v (within_yes (size_at m.blocks base) size (at + f.width / 8) sized room) in
          let len : length e.code ≡ length c.code + 1 = length-append c.code (store ∷ []) in
          record {
            slots = s1;
            world = with_memory (taken w1) (stored m base at f);
            ran = law.step (length c.code) store s1 w1 (stands_here final c e store refl (stands_rest final b c e x stands)) ∙ ap P same ∙ ap P done
                ∙ ap (λ k. next k s1 (with_memory (taken w1) (stored m base at f))) (sym len);
            keeps = Keeps-refl n s1;
            memory = refl;
            left = refl;
            switches = omega arith;
            post = tt;
          })

      stores_run : (n a base size : ℕ) (fs : List FlatWord) (at : ℕ) (b : Sheet) (s : List ℕ) (w : World) (m : Memory) → Stands final b (stores_code hs blocks a fs at b) → w.memory ≡ m
          → (stores_code hs blocks a fs at b).slots ≤ length s → n ≤ b.slots → a < n → slice_index s a ≡ base → size_at m.blocks base ≡ Some size → at + bytes_taken fs ≤ size
          → ((k : ℕ) (f : FlatWord) → slice_get fs k ≡ Some f → IsBlockWidth f.width) → WordsBelow blocks n fs → WordsTell blocks s fs
          → Runs n b (stores_code hs blocks a fs at b) s w (record m { bytes = with_words number fs (base + at) m.bytes }) (λ s'. Unit {0})
      stores_run n a base size [] at b s w m stands is long le lt there sized room wide below tells = runs_none n b s w m (λ s'. Unit {0}) is tt
      stores_run n a base size (f ∷ fs) at b s w m stands is long le lt there sized room wide below tells =
          let c = stored_code hs blocks a at f b in
          let e = stores_code hs blocks a fs (at + f.width / 8) c in
          let x = store_longer hs blocks a at f b in
          let y = stores_longer hs blocks a fs (at + f.width / 8) c in
          let m1 = stored m base at f in
          let m2 : Memory = record m { bytes = with_words number (f ∷ fs) (base + at) m.bytes } in
          let long1 : c.slots ≤ length s = (let q = y.more in omega (arith, q, long)) in
          let z : base + (at + f.width / 8) ≡ base + at + f.width / 8 = omega arith in
          let first = store_run n a base size at f b s w m (stands_first final b c e x y stands) is long1 le lt there sized (omega (arith, room)) (wide 0 f refl) (below 0 f refl) (tells 0 f refl) in
          runs_then n n b c e s w m1 m2 (λ s'. Unit {0}) (λ s'. Unit {0}) (omega arith) first
          (λ s1 w1 is1 k1 u.
          runs_weaken n n c e s1 w1 (record m1 { bytes = with_words number fs (base + (at + f.width / 8)) m1.bytes }) m2 (λ s'. Unit {0}) (λ s'. Unit {0}) (omega arith)
          (ap (λ i. let r : Memory = record m { bytes = with_words number fs i (write_le m.bytes (f.width / 8) (base + at) (number f)) } in r) z) (λ s' k h. tt)
          (stores_run n a base size fs (at + f.width / 8) c s1 w1 m1 (stands_rest final b c e x stands) is1 (let q = k1.long in omega (arith, long, q)) (let q = x.more in omega (arith, le, q)) lt (k1.same a lt ∙ there) sized
          (omega (arith, room)) (λ k g h. wide (suc k) g h) (λ k g h. below (suc k) g h)
          (λ k g h i p at1. tells_kept blocks n s s1 p.kind k1 (below (suc k) g h i p at1) (tells (suc k) g h i p at1))))

      -- One block -------------------------------------------------------------------------------
      abbrev Placing : Sheet → Block → ℕ → Instr
      Placing b x d = I.Place d (size_of x) x.align

      pub block_run : (x : Block) (b : Sheet) (s : List ℕ) (w : World) (m : Memory) → Stands final b (block_code hs blocks x b) → w.memory ≡ m → IsGood m → IsBlock x → (block_code hs blocks x b).slots ≤ length s
          → WordsBelow blocks b.slots x.words → WordsTell blocks s x.words → least_multiple m.next x.align + size_of x ≤ m.limit
          → Runs b.slots b (block_code hs blocks x b) s w (with_block number m x) (λ s'. slice_index s' b.slots ≡ least_multiple m.next x.align)
      block_run x b s w m stands is good block long below tells room =
          let d = b.slots in
          let place = I.Place d (size_of x) x.align in
          let c = with_more (with_slot b) place in
          let e = block_code hs blocks x b in
          let lx = longer-fresh b place in
          let ly = stores_longer hs blocks d x.words 0 c in
          let a = least_multiple m.next x.align in
          let m1 : Memory = record m { next = a + size_of x; blocks = m.blocks ++ (a, size_of x) ∷ [] } in
          let inside : d < length s = (let q = ly.more in omega (arith, q, long)) in
          let P : Result ℕ Full × Memory → Run = λ r. after_place r.0 (with_memory (taken w) r.1) (λ i. next (length b.code + 1) (slice_set s d i) (with_memory (taken w) r.1)) in
          let len : length c.code ≡ length b.code + 1 = length-append b.code (place ∷ []) in
          let s1 = slice_set s d a in
          let w1 = with_memory (taken w) m1 in
          let k1 = Keeps-set d s d a (omega arith) in
          let ran : next (length b.code) s w ≡ next (length c.code) s1 w1 =
          law.step (length b.code) place s w (stands_here final b c place refl (stands_first final b c e lx ly stands))
          ∙ ap P (ap (λ y. place_of y (size_of x) x.align) is ∙ placed_is m (size_of x) x.align room) ∙ ap (λ k. next k s1 w1) (sym len) in
          let sized = size_at-push m.blocks 64 m.next a (size_of x) good.blocks (above m good x block number room) in
          let here : slice_index s1 d ≡ a = set_same s d a inside in
          let z : a + 0 ≡ a = omega arith in
          let rest = stores_run c.slots d a (size_of x) x.words 0 c s1 w1 m1 (stands_rest final b c e lx stands) refl (let q = k1.long in omega (arith, long, q)) (omega arith) (omega arith) here sized (omega arith) block.widths
          (λ k f h i p at. below_more blocks d c.slots p.kind (omega arith) (below k f h i p at))
          (λ k f h i p at. tells_kept blocks d s s1 p.kind k1 (below k f h i p at) (tells k f h i p at)) in
          record {
            slots = rest.slots;
            world = rest.world;
            ran = ◌∙◌ {b = next (length c.code) s1 w1} {c = next (length e.code) rest.slots rest.world} ran rest.ran;
            keeps = Keeps-trans d c.slots s s1 rest.slots (omega arith) k1 rest.keeps;
            memory = rest.memory ∙ ap (λ i. let r : Memory = record { limit = m.limit; next = a + size_of x; blocks = m.blocks ++ (a, size_of x) ∷ []; bytes = with_words number x.words i m.bytes } in r) z;
            left = rest.left;
            switches = rest.switches;
            post = rest.keeps.same d (omega arith) ∙ here;
          }

      -- a block that does not fit is asked for in vain
      pub block_full : (x : Block) (b : Sheet) (s : List ℕ) (w : World) (m : Memory) → Stands final b (block_code hs blocks x b) → w.memory ≡ m → m.limit < least_multiple m.next x.align + size_of x
          → (w' : World) × (next (length b.code) s w ≡ over (Filled (record { next = m.next; size = size_of x; align = x.align; limit = m.limit })) w') × (w'.switches ≤ w.switches)
      block_full x b s w m stands is none =
          let d = b.slots in
          let place = I.Place d (size_of x) x.align in
          let c = with_more (with_slot b) place in
          let e = block_code hs blocks x b in
          let lx = longer-fresh b place in
          let ly = stores_longer hs blocks d x.words 0 c in
          let P : Result ℕ Full × Memory → Run = λ r. after_place r.0 (with_memory (taken w) r.1) (λ i. next (length b.code + 1) (slice_set s d i) (with_memory (taken w) r.1)) in (
            with_memory (taken w) m,
            law.step (length b.code) place s w (stands_here final b c place refl (stands_first final b c e lx ly stands))
                ∙ ap P (ap (λ y. place_of y (size_of x) x.align) is ∙ full_is m (size_of x) x.align none),
            omega arith,
          )

      -- Root words ------------------------------------------------------------------------------
      pub roots_run : (fs : List FlatWord) (b : Sheet) (s : List ℕ) (w : World) (m : Memory) → Stands final b (roots_code hs blocks fs b) → w.memory ≡ m → (roots_code hs blocks fs b).slots ≤ length s
          → WordsBelow blocks b.slots fs → WordsTell blocks s fs → Runs b.slots b (roots_code hs blocks fs b) s w m (λ s'. slots_at s' (root_slots hs blocks fs b) ≡ map number fs)
      roots_run [] b s w m stands is long below tells = runs_none b.slots b s w m (λ s'. [] ≡ []) is refl
      roots_run (f ∷ fs) b s w m stands is long below tells =
          let d = b.slots in
          let o = whole_of hs f.parts in
          let c = root_code (slot_of hs o) hs blocks f.parts b in
          let e = roots_code hs blocks fs c in
          let x = root_longer hs (slot_of hs o) blocks f.parts b in
          let y = roots_longer hs blocks fs c in
          let fresh = fresh_root hs (slot_of hs o) blocks f.parts b in
          let first = root_run blocks o f.parts b s w m refl (stands_first final b c e x y stands) is (let q = y.more in omega (arith, q, long)) (below 0 f refl) (tells 0 f refl) in
          runs_then d c.slots b c e s w m m (λ s'. (slice_index s' d ≡ number f) × (length s' ≡ length s)) (λ s'. slots_at s' (d ∷ root_slots hs blocks fs c) ≡ map number (f ∷ fs)) (let q = x.more in omega (arith, q))
          (runs_weaken d d b c s w m m (λ s'. slice_index s' d ≡ number f) (λ s'. (slice_index s' d ≡ number f) × (length s' ≡ length s)) (omega arith) refl (λ s' k h. (h, k.long)) first)
          (λ s1 w1 is1 k1 e1.
          runs_weaken c.slots c.slots c e s1 w1 m m (λ s'. slots_at s' (root_slots hs blocks fs c) ≡ map number fs) (λ s'. slots_at s' (d ∷ root_slots hs blocks fs c) ≡ map number (f ∷ fs)) (omega arith) refl
          (λ s' k h. ap (λ v. v ∷ slots_at s' (root_slots hs blocks fs c)) (k.same d (omega (arith, fresh)) ∙ e1.0) ∙ ap (λ vs. number f ∷ vs) h)
          (roots_run fs c s1 w1 m (stands_rest final b c e x stands) is1 (let q = e1.1 in omega (arith, long, q))
          (λ k g h i p at. below_more blocks d c.slots p.kind (let q = x.more in omega (arith, q)) (below (suc k) g h i p at))
          (λ k g h i p at. tells_kept blocks d s s1 p.kind k1 (below (suc k) g h i p at) (tells (suc k) g h i p at))))
