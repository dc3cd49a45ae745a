-- The code of a construction is appended, whatever it is made from.
use Rattle.std.proofs.Common.{◌≡◌, ℕ, ◌+◌, ◌-◌, ◌<◌, ◌≤◌, ◌/◌, ◌==◌, Bool, true, false, List, [], ◌∷◌, ◌++◌, Option, Some, None, sym, subst, arith}
use Rattle.std.specs.Prelude.{slice_index, if◌then◌else◌}
use Rattle.rb_target.specs.declared.instr.AluOp.TheVariants.{Or}
use Rattle.rb_target.specs.declared.instr.Instr.{Instr}
use Rattle.rb_target.specs.declared.instr.Instr.TheVariants as I
use Rattle.rb_target.specs.Growth.{Grows}
use Rattle.rb_target.specs.Sheet.{Sheet, with_more, with_slot}
use Rattle.rb_target.proofs.Growing.{Grows-refl, Grows-trans, Grows-append}
use Rattle.rb_layout.specs.declared.layout.Block.{Block}
use Rattle.rb_layout.specs.declared.layout.FlatWord.{FlatWord}
use Rattle.rb_layout.specs.declared.layout.Kind.{Kind}
use Rattle.rb_layout.specs.declared.layout.Kind.TheVariants.{Const, Bits, Word, Pointer}
use Rattle.rb_layout.specs.declared.layout.Leaf.{Leaf}
use Rattle.rb_layout.specs.declared.layout.Part.{Part}
use Rattle.rb_layout.specs.Words.{size_of}
use Rattle.rb_compose.specs.declared.subvalue.Subvalue.{Subvalue}
use Rattle.rb_compose.specs.Counts.{capped_bits}
use Rattle.rb_compose.specs.inner.Code.{after_constants, begun_code, block_code, blocks_code, constants, field_slots, is_low, is_ready, joined_code, kind_code, leaf_code, low_bit, part_code, parts_code, put_code, root_code, roots_code, shift_of, source_slot, stores_code, taken_code, taken_slot, value_code, value_slot, whole_slot, word_code}

-- more instructions behind the old ones, and no fewer slots
pub record IsLonger (b c : Sheet) : Type 0 where
  pub grows : Grows b.code c.code
  pub more : b.slots ≤ c.slots

pub longer-refl : (b : Sheet) → IsLonger b b
longer-refl b = record { grows = Grows-refl b.code; more = omega arith }

pub longer-trans : (b c d : Sheet) → IsLonger b c → IsLonger c d → IsLonger b d
longer-trans b c d x y = record { grows = Grows-trans b.code c.code d.code x.grows y.grows; more = omega (arith, x.more, y.more) }

pub longer-push : (b : Sheet) (i : Instr) → IsLonger b (with_more b i)
longer-push b i = record { grows = Grows-append b.code (i ∷ []); more = omega arith }

pub longer-fresh : (b : Sheet) (i : Instr) → IsLonger b (with_more (with_slot b) i)
longer-fresh b i = record { grows = Grows-append b.code (i ∷ []); more = omega arith }

pub taken_longer : (x o l : ℕ) (b : Sheet) → IsLonger b (taken_code x o l b)
taken_longer x o l b = elim (o == 0) as (λ t. IsLonger b (if t then b else with_more (with_slot b) (I.Take b.slots x o l))) [ true ↦ longer-refl b | false ↦ longer-fresh b (I.Take b.slots x o l) ]

pub put_longer : (d x from long : ℕ) (p : Part) (b : Sheet) → IsLonger b (put_code d x from long p b)
put_longer d x from long p b =
    let c = taken_code x from long b in
    longer-trans b c (put_code d x from long p b) (taken_longer x from long b) (longer-push c (I.Put d (taken_slot x from b.slots) (capped_bits p.o) (capped_bits p.l)))

module _ (hs : List Subvalue) where
  pub kind_longer : (blocks : List ℕ) (d : ℕ) (p : Part) (kind : Kind) (b : Sheet) → IsLonger b (kind_code hs blocks d p kind b)
  kind_longer blocks d p (Const c) b = longer-refl b
  kind_longer blocks d p (Bits path a) b = put_longer d (slice_index (field_slots hs path) 0) (capped_bits a) (capped_bits p.l) p b
  kind_longer blocks d p (Word path j) b = put_longer d (slice_index (field_slots hs path) j) 0 64 p b
  kind_longer blocks d p (Pointer align x) b = put_longer d (slice_index blocks x) (shift_of align) (64 - shift_of align) p b

  pub part_longer : (blocks : List ℕ) (d : ℕ) (p : Part) (b : Sheet) → IsLonger b (part_code hs blocks d p b)
  part_longer blocks d p b =
      let or = I.Alu Or 64 d d (source_slot hs blocks p.kind) in
      elim (is_ready hs p.o p.l p.kind) as (λ t. IsLonger b (if t then with_more b or else kind_code hs blocks d p p.kind b)) [ true ↦ longer-push b or | false ↦ kind_longer blocks d p p.kind b ]

  pub parts_longer : (blocks : List ℕ) (d : ℕ) (ps : List Part) (b : Sheet) → IsLonger b (parts_code hs blocks d ps b)
  parts_longer blocks d [] b = longer-refl b
  parts_longer blocks d (p ∷ ps) b =
      let c = part_code hs blocks d p b in longer-trans b c (parts_code hs blocks d ps c) (part_longer blocks d p b) (parts_longer blocks d ps c)

  -- the first new slot is one of the slots then
  abbrev Begins : Sheet → Sheet → Type 0
  Begins b c = IsLonger b c × (b.slots < c.slots)

  -- an instruction that writes the first new slot, and parts
  abbrev pub from_code : List ℕ → Instr → List Part → Sheet → Sheet
  from_code blocks i ps b = parts_code hs blocks b.slots ps (with_more (with_slot b) i)

  -- by whether a part stands in its place, and whether there are constants
  abbrev pub part_by : List ℕ → ℕ → Part → Sheet → Bool → Sheet
  part_by blocks d p b t = if t then with_more b (I.Alu Or 64 d d (source_slot hs blocks p.kind)) else kind_code hs blocks d p p.kind b

  abbrev pub joined_by : List ℕ → ℕ → Part → List Part → Sheet → Bool → Sheet
  joined_by blocks x p ps b t = if t then from_code blocks (I.Alu Or 64 b.slots x (source_slot hs blocks p.kind)) ps b else from_code blocks (I.Copy b.slots x) (p ∷ ps) b

  abbrev pub low_by : List ℕ → Part → List Part → Sheet → Bool → Sheet
  low_by blocks p ps b t =
      if t then from_code blocks (I.Take b.slots (source_slot hs blocks p.kind) (low_bit p.kind) (capped_bits p.l)) ps b else from_code blocks (I.Const b.slots 0) (p ∷ ps) b

  abbrev pub begun_by : List ℕ → Part → List Part → Sheet → Bool → Sheet
  begun_by blocks p ps b t = if t then joined_code hs blocks (source_slot hs blocks p.kind) (after_constants ps) b else low_by blocks p ps b (is_low p.o p.kind)

  abbrev pub word_by : List ℕ → List Part → Sheet → Bool → Sheet
  word_by blocks ps b t = if t then begun_code hs blocks (after_constants ps) b else from_code blocks (I.Const b.slots (constants 0 ps)) ps b

  from_begins : (blocks : List ℕ) (i : Instr) (ps : List Part) (b : Sheet) → Begins b (from_code blocks i ps b)
  from_begins blocks i ps b =
      let c = with_more (with_slot b) i in
      let rest = parts_longer blocks b.slots ps c in (longer-trans b c (from_code blocks i ps b) (longer-fresh b i) rest, (let more = rest.more in omega (arith, more)))

  joined_begins : (blocks : List ℕ) (x : ℕ) (ps : List Part) (b : Sheet) → Begins b (joined_code hs blocks x ps b)
  joined_begins blocks x [] b = from_begins blocks (I.Copy b.slots x) [] b
  joined_begins blocks x (p ∷ ps) b =
      let or = I.Alu Or 64 b.slots x (source_slot hs blocks p.kind) in
      elim (is_ready hs p.o p.l p.kind) as (λ t. Begins b (joined_by blocks x p ps b t)) [
        | true ↦ from_begins blocks or ps b
        | false ↦ from_begins blocks (I.Copy b.slots x) (p ∷ ps) b
      ]

  begun_begins : (blocks : List ℕ) (ps : List Part) (b : Sheet) → Begins b (begun_code hs blocks ps b)
  begun_begins blocks [] b = from_begins blocks (I.Const b.slots 0) [] b
  begun_begins blocks (p ∷ ps) b =
      let x = source_slot hs blocks p.kind in
      elim (is_ready hs p.o p.l p.kind) as (λ t. Begins b (begun_by blocks p ps b t)) [
        | true ↦ joined_begins blocks x (after_constants ps) b
        | false ↦ elim (is_low p.o p.kind) as (λ t. Begins b (low_by blocks p ps b t)) [
          | true ↦ from_begins blocks (I.Take b.slots x (low_bit p.kind) (capped_bits p.l)) ps b
          | false ↦ from_begins blocks (I.Const b.slots 0) (p ∷ ps) b
        ]
      ]

  word_begins : (blocks : List ℕ) (ps : List Part) (b : Sheet) → Begins b (word_code hs blocks ps b)
  word_begins blocks ps b =
      let k = constants 0 ps in
      elim (k == 0) as (λ t. Begins b (word_by blocks ps b t)) [
        | true ↦ begun_begins blocks (after_constants ps) b
        | false ↦ from_begins blocks (I.Const b.slots k) ps b
      ]

  pub word_longer : (blocks : List ℕ) (ps : List Part) (b : Sheet) → IsLonger b (word_code hs blocks ps b)
  word_longer blocks ps b = (word_begins blocks ps b).0

  pub fresh_word : (blocks : List ℕ) (ps : List Part) (b : Sheet) → b.slots < (word_code hs blocks ps b).slots
  fresh_word blocks ps b = (word_begins blocks ps b).1

  pub value_longer : (o : Option ℕ) (blocks : List ℕ) (ps : List Part) (b : Sheet) → IsLonger b (value_code o hs blocks ps b)
  value_longer None blocks ps b = word_longer blocks ps b
  value_longer (Some x) blocks ps b = longer-refl b

  pub root_longer : (o : Option ℕ) (blocks : List ℕ) (ps : List Part) (b : Sheet) → IsLonger b (root_code o hs blocks ps b)
  root_longer None blocks ps b = word_longer blocks ps b
  root_longer (Some x) blocks ps b = longer-fresh b (I.Copy b.slots x)

  pub fresh_root : (o : Option ℕ) (blocks : List ℕ) (ps : List Part) (b : Sheet) → b.slots < (root_code o hs blocks ps b).slots
  fresh_root None blocks ps b = fresh_word blocks ps b
  fresh_root (Some x) blocks ps b = omega arith

  abbrev pub stored_code : List ℕ → ℕ → ℕ → FlatWord → Sheet → Sheet
  stored_code blocks a at f b =
      with_more (value_code (whole_slot hs f.parts) hs blocks f.parts b) (I.Store a at (capped_bits f.width) (value_slot (whole_slot hs f.parts) b.slots))

  pub store_longer : (blocks : List ℕ) (a at : ℕ) (f : FlatWord) (b : Sheet) → IsLonger b (stored_code blocks a at f b)
  store_longer blocks a at f b =
      let c = value_code (whole_slot hs f.parts) hs blocks f.parts b in
      longer-trans b c (stored_code blocks a at f b) (value_longer (whole_slot hs f.parts) blocks f.parts b) (longer-push c (I.Store a at (capped_bits f.width) (value_slot (whole_slot hs f.parts) b.slots)))

  pub stores_longer : (blocks : List ℕ) (a : ℕ) (fs : List FlatWord) (at : ℕ) (b : Sheet) → IsLonger b (stores_code hs blocks a fs at b)
  stores_longer blocks a [] at b = longer-refl b
  stores_longer blocks a (f ∷ fs) at b =
      let c = stored_code blocks a at f b in
      longer-trans b c (stores_code hs blocks a fs (at + f.width / 8) c) (store_longer blocks a at f b) (stores_longer blocks a fs (at + f.width / 8) c)

  pub block_longer : (blocks : List ℕ) (x : Block) (b : Sheet) → IsLonger b (block_code hs blocks x b)
  block_longer blocks x b =
      let c = with_more (with_slot b) (I.Place b.slots (size_of x) x.align) in
      longer-trans b c (block_code hs blocks x b) (longer-fresh b (I.Place b.slots (size_of x) x.align)) (stores_longer blocks b.slots x.words 0 c)

  pub blocks_longer : (xs : List Block) (blocks : List ℕ) (b : Sheet) → IsLonger b (blocks_code hs xs blocks b).0
  blocks_longer [] blocks b = longer-refl b
  blocks_longer (x ∷ xs) blocks b =
      let c = block_code hs blocks x b in
      longer-trans b c (blocks_code hs xs (blocks ++ b.slots ∷ []) c).0 (block_longer blocks x b) (blocks_longer xs (blocks ++ b.slots ∷ []) c)

  pub roots_longer : (blocks : List ℕ) (fs : List FlatWord) (b : Sheet) → IsLonger b (roots_code hs blocks fs b)
  roots_longer blocks [] b = longer-refl b
  roots_longer blocks (f ∷ fs) b =
      let c = root_code (whole_slot hs f.parts) hs blocks f.parts b in
      longer-trans b c (roots_code hs blocks fs c) (root_longer (whole_slot hs f.parts) blocks f.parts b) (roots_longer blocks fs c)

  pub leaf_longer : (leaf : Leaf) (b : Sheet) → IsLonger b (leaf_code hs leaf b)
  leaf_longer leaf b =
      let c = blocks_code hs leaf.blocks [] b in longer-trans b c.0 (roots_code hs c.1 leaf.root c.0) (blocks_longer leaf.blocks [] b) (roots_longer c.1 leaf.root c.0)

  pub leaf_grows : (leaf : Leaf) (b c : Sheet) → c ≡ leaf_code hs leaf b → Grows b.code c.code
  leaf_grows leaf b c is = subst (λ (x : Sheet). Grows b.code x.code) (sym is) (leaf_longer leaf b).grows
