-- All blocks of a leaf and its root words: where the blocks fit the run comes to the end of the code.
use Rattle.std.proofs.Common.{◌≡◌, ℕ, suc, ◌+◌, ◌<◌, ◌≤◌, inl, inr, Bool, map, List, [], ◌∷◌, ◌++◌, length, refl, sym, subst, ap, ◌∙◌, arith, length-append}
use Rattle.std.specs.Prelude.{slice_index, if◌then◌else◌}
use Rattle.std.proofs.lemmas.Bool.{cases_lt}
use Rattle.std.proofs.lemmas.Bool.Decides.{leb_tells}
use Rattle.rb_bytes.specs.Memory.{Memory, IsGood, least_multiple}
use Rattle.rb_target.specs.declared.instr.Instr.{Instr}
use Rattle.rb_target.specs.declared.outcome.End.TheVariants.{Full as Filled}
use Rattle.rb_target.specs.Growth.{Keeps}
use Rattle.rb_target.specs.Laws.{Law}
use Rattle.rb_target.specs.Meaning.{World, Next, Callee, over, slots_at}
use Rattle.rb_target.specs.Sheet.{Sheet}
use Rattle.rb_target.proofs.Growing.{Keeps-refl, Keeps-trans}
use Rattle.rb_layout.specs.declared.layout.Block.{Block}
use Rattle.rb_layout.specs.declared.layout.FlatWord.{FlatWord}
use Rattle.rb_layout.specs.declared.layout.Kind.{Kind}
use Rattle.rb_layout.specs.declared.layout.Kind.TheVariants.{Const, Bits, Word, Pointer}
use Rattle.rb_layout.specs.declared.layout.Leaf.{Leaf}
use Rattle.rb_layout.specs.Words.{size_of}
use Rattle.rb_compose.specs.declared.subvalue.Subvalue.{Subvalue}
use Rattle.rb_rel.specs.Placing.{Laid, Fits, Over, request_of, block_before, lay}
use Rattle.rb_rel.proofs.Storing.{filled_good}
use Rattle.rb_rel.specs.Storing.{with_block, with_blocks}
use Rattle.rb_compose.specs.inner.Code.{field_slots, block_code, blocks_code, leaf_code, leaf_slots}
use Rattle.rb_compose.proofs.Fits.{Uses, WordsOk, BlocksOk, LeafOk, SlotsBelow, at_left, at_end, slots_below_more, one_more_below, first_block, blocks_more, fresh_block, blocks_count}
use Rattle.rb_compose.proofs.Longer.{block_longer, blocks_longer, roots_longer}
use Rattle.rb_compose.proofs.Running.{Stands, stands_first, stands_rest, Runs, runs_none, runs_then, IsBelow, Tells, WordsBelow, WordsTell, number, block_run, block_full, roots_run}

-- the addresses of blocks that are laid one after the other, whether they fit or not
abbrev pub addresses : ℕ → List Block → List ℕ
addresses next [] = []
addresses next (x ∷ xs) = least_multiple next x.align ∷ addresses (least_multiple next x.align + size_of x) xs

module _ (final : List Instr) (callee : Callee) (next : Next) (law : Law final callee next) where
  -- what a run does where requests are laid like this
  abbrev pub Ran : Laid → ℕ → Sheet → Sheet → List ℕ → World → Memory → (List ℕ → Type 0) → Type 0
  Ran (Fits bs p) n b c s w m Post = Runs final callee next law n b c s w m Post
  Ran (Over full) n b c s w m Post = (w' : World) × (next (length b.code) s w ≡ over (Filled full) w') × (w'.switches ≤ w.switches)

  ran_behind : (block : ℕ × ℕ) (l : Laid) (n j k : ℕ) (b c d : Sheet) (s : List ℕ) (w : World) (m m' : Memory) (P Q : List ℕ → Type 0) → n ≤ j → n ≤ k → (r : Runs final callee next law j b c s w m P)
      → Ran l k c d r.slots r.world m' Q → Ran (block_before block l) n b d s w m' Q
  ran_behind block (Fits bs p) n j k b c d s w m m' P Q lj le r q = record {
    slots = q.slots;
    world = q.world;
    ran = r.ran ∙ q.ran;
    keeps = Keeps-trans n k s r.slots q.slots le (record { long = r.keeps.long; same = λ i lt. r.keeps.same i (omega (arith, lt, lj)) }) q.keeps;
    memory = q.memory;
    left = q.left ∙ r.left;
    switches = (let x = q.switches in let y = r.switches in omega (arith, x, y));
    post = q.post;
  }
  ran_behind block (Over full) n j k b c d s w m m' P Q lj le r q = (q.0, r.ran ∙ q.1, (let x = r.switches in let y = q.2 in omega (arith, x, y)))

  ran_then : (l : Laid) (n k : ℕ) (b c d : Sheet) (s : List ℕ) (w : World) (m m' : Memory) (P Q : List ℕ → Type 0) → n ≤ k → Ran l n b c s w m P
      → ((s1 : List ℕ) (w1 : World) → w1.memory ≡ m → Keeps n s s1 → P s1 → Runs final callee next law k c d s1 w1 m' Q) → Ran l n b d s w m' Q
  ran_then (Fits bs p) n k b c d s w m m' P Q le r go = runs_then final callee next law n k b c d s w m m' P Q le r go
  ran_then (Over full) n k b c d s w m m' P Q le r go = r

  module _ (hs : List Subvalue) (ats : ℕ → ℕ) (n : ℕ) (s0 : List ℕ) where
    -- the words of the fields are those at the beginning
    abbrev pub field : List ℕ → ℕ → ℕ
    field path j = slice_index s0 (slice_index (field_slots hs path) j)

    -- the first slots are as at the beginning, and those of addresses hold them
    pub record Known (s blocks : List ℕ) (top : ℕ) : Type 0 where
      pub keeps : Keeps n s0 s
      pub below : SlotsBelow blocks top
      pub hold : (j : ℕ) → j < length blocks → slice_index s (slice_index blocks j) ≡ ats j

    below_by : (blocks : List ℕ) (top : ℕ) (kind : Kind) → n ≤ top → SlotsBelow blocks top → Uses hs n (length blocks) kind → IsBelow final callee next law hs field ats blocks top kind
    below_by blocks top (Const c) le low u = tt
    below_by blocks top (Bits path a) le low u = omega (arith, le, u)
    below_by blocks top (Word path j) le low u = omega (arith, le, u)
    below_by blocks top (Pointer align x) le low u = low x u

    tells_by : (s blocks : List ℕ) (top : ℕ) (kind : Kind) → Known s blocks top → Uses hs n (length blocks) kind → Tells final callee next law hs field ats blocks s kind
    tells_by s blocks top (Const c) k u = tt
    tells_by s blocks top (Bits path a) k u = k.keeps.same _ u
    tells_by s blocks top (Word path j) k u = k.keeps.same _ u
    tells_by s blocks top (Pointer align x) k u = k.hold x u

    words_below : (blocks : List ℕ) (top : ℕ) (fs : List FlatWord) → n ≤ top → SlotsBelow blocks top → WordsOk hs n (length blocks) fs → WordsBelow final callee next law hs field ats blocks top fs
    words_below blocks top fs le low ok k f e i p at = below_by blocks top p.kind le low (ok k f e i p at).uses

    words_tell : (s blocks : List ℕ) (top : ℕ) (fs : List FlatWord) → Known s blocks top → WordsOk hs n (length blocks) fs → WordsTell final callee next law hs field ats blocks s fs
    words_tell s blocks top fs known ok k f e i p at = tells_by s blocks top p.kind known (ok k f e i p at).uses

    known_more : (s s1 blocks : List ℕ) (d top : ℕ) → n ≤ d → d < top → Known s blocks d → Keeps d s s1 → slice_index s1 d ≡ ats (length blocks) → Known s1 (blocks ++ d ∷ []) top
    known_more s s1 blocks d top le lt known k here = record {
      keeps = Keeps-trans n d s0 s s1 le known.keeps k;
      below = one_more_below blocks d top lt (slots_below_more blocks d top (omega (arith, lt)) known.below);
      hold = λ j lj. elim (cases_lt j (length blocks)) [
        | inl x ↦ ap (slice_index s1) (at_left blocks d j x) ∙ k.same (slice_index blocks j) (known.below j x) ∙ known.hold j x
        | inr x ↦
            let long = length-append blocks (d ∷ []) in
            let same : j ≡ length blocks = omega (arith, lj, x, long) in
            ap (λ i. slice_index s1 (slice_index (blocks ++ d ∷ []) i)) same ∙ ap (slice_index s1) (at_end blocks d) ∙ here ∙ ap ats (sym same)
      ];
    }

    abbrev pub made : FlatWord → ℕ
    made = number final callee next law hs field ats

    pub blocks_run : (xs : List Block) (blocks : List ℕ) (b : Sheet) (s : List ℕ) (w : World) (m : Memory) → Stands final b (blocks_code hs xs blocks b).0 → w.memory ≡ m → IsGood m
        → (blocks_code hs xs blocks b).0.slots ≤ length s → n ≤ b.slots → BlocksOk hs n (length blocks) xs → Known s blocks b.slots
        → ((j : ℕ) → j < length xs → ats (length blocks + j) ≡ slice_index (addresses m.next xs) j)
        → Ran (lay m.limit m.next (map request_of xs)) n b (blocks_code hs xs blocks b).0 s w (with_blocks made m xs) (λ s'. Known s' (blocks_code hs xs blocks b).1 (blocks_code hs xs blocks b).0.slots)
    blocks_run [] blocks b s w m stands is good long le ok known at = runs_none final callee next law n b s w m (λ s'. Known s' blocks b.slots) is known
    blocks_run (x ∷ xs) blocks b s w m stands is good long le ok known at =
        let d = b.slots in
        let c = block_code hs blocks x b in
        let e = blocks_code hs xs (blocks ++ d ∷ []) c in
        let lx = block_longer hs blocks x b in
        let ly = blocks_longer hs xs (blocks ++ d ∷ []) c in
        let a = least_multiple m.next x.align in
        let size = size_of x in
        let rest = lay m.limit (a + size) (map request_of xs) in
        let here = first_block hs n blocks x xs ok in
        let first_stands = stands_first final b c e.0 lx ly stands in
        let Goal : Bool → Type 0 = λ t. Ran (if t then block_before (a, size) rest else Over (record { next = m.next; size = size; align = x.align; limit = m.limit })) n b e.0 s w (with_blocks made m (x ∷ xs)) (λ s'. Known s' e.1 e.0.slots) in
        elim (leb_tells (a + size) m.limit) [
          | inl h ↦
              let m1 = with_block made m x in
              let r = block_run final callee next law hs field ats blocks x b s w m first_stands is good here.is (let q = ly.more in omega (arith, q, long))
              (words_below blocks d x.words le known.below here.words) (words_tell s blocks d x.words known here.words) h.1 in
              let z : length blocks + 0 ≡ length blocks = omega arith in
              let address : a ≡ ats (length blocks) = sym (at 0 (omega arith)) ∙ ap ats z in
              let known1 = known_more s r.slots blocks d c.slots le (fresh_block hs blocks x b) known r.keeps (r.post ∙ address) in
              let more = lx.more in
              let q = blocks_run xs (blocks ++ d ∷ []) c r.slots r.world m1 (stands_rest final b c e.0 lx stands) r.memory (filled_good m good x here.is made h.1) (let g = r.keeps.long in omega (arith, long, g)) (omega (arith, le, more))
              (blocks_more hs n blocks d x xs ok) known1
              (λ j lj. let y = length-append blocks (d ∷ []) in let v : length (blocks ++ d ∷ []) + j ≡ length blocks + suc j = omega (arith, y) in ap ats v ∙ at (suc j) (omega (arith, lj))) in
              subst Goal (sym h.0) (ran_behind (a, size) rest n d n b c e.0 s w m1 (with_blocks made m1 xs) (λ s'. slice_index s' d ≡ a) (λ s'. Known s' e.1 e.0.slots) le (omega arith) r q)
          | inr h ↦ subst Goal (sym h.0) (block_full final callee next law hs field ats blocks x b s w m first_stands is h.1)
        ]

    no_slots : (top : ℕ) → SlotsBelow [] top
    no_slots top j lt = absurd (omega (arith, lt))

    -- a whole leaf, from the beginning
    pub leaf_run : (leaf : Leaf) (b : Sheet) (w : World) → Stands final b (leaf_code hs leaf b) → IsGood w.memory → (leaf_code hs leaf b).slots ≤ length s0 → n ≤ b.slots → LeafOk hs n leaf
        → ((j : ℕ) → j < length leaf.blocks → ats j ≡ slice_index (addresses w.memory.next leaf.blocks) j)
        → Ran (lay w.memory.limit w.memory.next (map request_of leaf.blocks)) n b (leaf_code hs leaf b) s0 w (with_blocks made w.memory leaf.blocks) (λ s'. slots_at s' (leaf_slots hs leaf b) ≡ map made leaf.root)
    leaf_run leaf b w stands good long le ok at =
        let m = w.memory in
        let c = blocks_code hs leaf.blocks [] b in
        let e = leaf_code hs leaf b in
        let lx = blocks_longer hs leaf.blocks [] b in
        let ly = roots_longer hs c.1 leaf.root c.0 in
        let known : Known s0 [] b.slots = record { keeps = Keeps-refl n s0; below = no_slots b.slots; hold = λ j lt. absurd (omega (arith, lt)) } in
        let first = blocks_run leaf.blocks [] b s0 w m (stands_first final b c.0 e lx ly stands) refl good (let q = ly.more in omega (arith, q, long)) le ok.blocks known
        (λ j lj. let z : 0 + j ≡ j = omega arith in ap ats z ∙ at j lj) in
        let count : length leaf.blocks ≡ length c.1 = (let r = blocks_count hs leaf.blocks [] b in omega (arith, r)) in
        let root = subst (λ i. WordsOk hs n i leaf.root) count ok.root in
        let m1 = with_blocks made m leaf.blocks in
        let more = lx.more in
        ran_then (lay m.limit m.next (map request_of leaf.blocks)) n c.0.slots b c.0 e s0 w m1 m1 (λ s'. Known s' c.1 c.0.slots) (λ s'. slots_at s' (leaf_slots hs leaf b) ≡ map made leaf.root) (omega (arith, le, more)) first
        (λ s1 w1 is1 k1 known1.
        roots_run final callee next law hs field ats c.1 leaf.root c.0 s1 w1 m1 (stands_rest final b c.0 e lx stands) is1 (let q = k1.long in omega (arith, long, q))
        (words_below c.1 c.0.slots leaf.root (omega (arith, le, more)) known1.below root) (words_tell s1 c.1 c.0.slots leaf.root known1 root))
