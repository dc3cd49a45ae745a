-- Blocks are loaded from the last to the first, each at the address that a pointer before it gave.
use Rattle.std.proofs.Common.{◌≡◌, ℕ, zero, suc, ◌+◌, ◌/◌, ◌<◌, ◌≤◌, inl, inr, List, [], ◌∷◌, ◌++◌, length, replicate, false, Option, Some, None, Ok, refl, sym, subst, ap, ◌∙◌, arith, Fits, w64}
use Rattle.std.specs.Prelude.{slice_get, slice_index, slice_index_or}
use Rattle.std.proofs.lemmas.Bool.{cases_eq}
use Rattle.std.proofs.lemmas.List.{length-append, length-replicate}
use Rattle.std.proofs.lemmas.Option.{same_Some, slice_get_within, get_or_from_slice_get}
use Rattle.rb_bytes.specs.Memory.{Memory, IsGood, load_of}
use Rattle.rb_bytes.proofs.BlockLemmas.{block_bounds}
use Rattle.rb_bytes.proofs.MemoryLemmas.{load_ok, within_next}
use Rattle.rb_layout.specs.declared.layout.Block.{Block}
use Rattle.rb_layout.specs.declared.layout.FlatWord.{FlatWord}
use Rattle.rb_layout.specs.declared.layout.Kind.TheVariants.{Pointer}
use Rattle.rb_layout.specs.declared.layout.Leaf.{Leaf}
use Rattle.rb_layout.specs.declared.layout.Part.{Part}
use Rattle.rb_layout.specs.Flat.{IsAbove}
use Rattle.rb_layout.specs.Words.{words_in, words_of_block, flat_at, begins_at, size_of}
use Rattle.rb_rel.specs.Relation.{PartHolds, LeafStands}
use Rattle.rb_rel.proofs.Lists.{got}
use Rattle.rb_coding.specs.inner.Gathering.{put_words}
use Rattle.rb_coding.specs.inner.Loading.{AreLoaded, AreWordsOf, CanLoad, IsLoadable}
use Rattle.rb_coding.specs.declared.gather.Wanted.TheVariants.{Addresses}
use Rattle.rb_coding.proofs.GrowLemmas.{index_before}
use Rattle.rb_coding.proofs.SplitLemmas.{fits_small}
use Rattle.rb_coding.proofs.GatherLemmas.{FineWords, words_keep, words_make, IsAt, PointsAt, address_step, address_make, long_step}

-- a root word, or a word of a block from block b on
abbrev pub IsFrom : ℕ → Option ℕ → Type 0
IsFrom b None = Unit {0}
IsFrom b (Some a) = b ≤ a

-- the addresses to which the words of the root, and of the blocks from block b on, point
abbrev pub Known : Leaf → ℕ → (ℕ → ℕ) → List ℕ → Type 0
Known leaf b ats addresses =
    (o : Option ℕ) (j : ℕ) (f : FlatWord) → slice_get (words_in leaf o) j ≡ Some f → (k : ℕ) (q : Part) → slice_get f.parts k ≡ Some q
    → (align c : ℕ) → q.kind ≡ Pointer align c → IsFrom b o → c < length leaf.blocks → slice_index addresses c ≡ ats c

-- the blocks from block b on are loaded
pub record Loading (leaf : Leaf) (ws : List ℕ) (m : Memory) (b : ℕ) (addresses : List ℕ) (loaded : List (List ℕ)) : Type 0 where
  pub long : length addresses ≡ length leaf.blocks
  pub count : length loaded + b ≡ length leaf.blocks
  pub known : (subs : List ℕ → List ℕ) (ats : ℕ → ℕ) → LeafStands leaf ws m false subs ats → Known leaf b ats addresses
  pub words : (subs : List ℕ → List ℕ) (ats : ℕ → ℕ) → LeafStands leaf ws m false subs ats
      → (a c : ℕ) (block : Block) → a + 1 + c ≡ length leaf.blocks → b ≤ a → slice_get leaf.blocks a ≡ Some block
      → AreLoaded m (ats a) block.words (slice_index_or loaded c [])

less : (x y : ℕ) → y ≤ x → (x ≡ y → ⊥) → y + 1 ≤ x
less x y le ne = omega (arith, le, ne)

before : (xs : List (List ℕ)) (y : List ℕ) (j : ℕ) → j < length xs → slice_index_or (xs ++ y ∷ []) j [] ≡ slice_index_or xs j []
before [] y j lt = absurd (omega (arith, lt))
before (x ∷ xs) y zero lt = refl
before (x ∷ xs) y (suc j) lt = before xs y j (omega (arith, lt))

last : (xs : List (List ℕ)) (y : List ℕ) (j : ℕ) → j ≡ length xs → slice_index_or (xs ++ y ∷ []) j [] ≡ y
last [] y j e = ap (λ k. slice_index_or (y ∷ []) k []) e
last (x ∷ xs) y zero e = absurd (omega (arith, e))
last (x ∷ xs) y (suc j) e = last xs y j (omega (arith, e))

-- Words of one block -------------------------------------------------------------------------------
pub load_room : (m : Memory) → IsGood m → (base offset width r at : ℕ) → offset ≡ at → load_of m base at width ≡ Ok r → Fits w64 (offset + width / 8)
load_room m good base offset width r at same is =
    let within = within_next m base (at + width / 8) good (load_ok m base at width r is).0 in
    let n = good.next in
    let l = good.limit in
    fits_small (offset + width / 8) (omega (arith, within, n, l, same))

abbrev pub LoadedTo : Memory → ℕ → List FlatWord → ℕ → List ℕ → Type 0
LoadedTo m base fs i loaded = (j : ℕ) (f : FlatWord) → j < i → slice_get fs j ≡ Some f → load_of m base (begins_at fs j) f.width ≡ Ok (slice_index loaded j)

item_last : (xs : List ℕ) (y j : ℕ) → j ≡ length xs → slice_index (xs ++ y ∷ []) j ≡ y
item_last [] y j e = ap (λ k. slice_index (y ∷ []) k) e
item_last (x ∷ xs) y zero e = absurd (omega (arith, e))
item_last (x ∷ xs) y (suc j) e = item_last xs y j (omega (arith, e))

pub loaded_more : (m : Memory) (base : ℕ) (fs : List FlatWord) (i : ℕ) (f : FlatWord) → slice_get fs i ≡ Some f → (loaded new : List ℕ) (w : ℕ) → length loaded ≡ i → LoadedTo m base fs i loaded
    → load_of m base (begins_at fs i) f.width ≡ Ok w → new ≡ loaded ++ w ∷ [] → LoadedTo m base fs (i + 1) new
loaded_more m base fs i f at loaded new w long h here is j g lt e = elim (cases_eq j i) [
  | inl same ↦
      let one : f ≡ g = same_Some f g (sym at ∙ ap (slice_get fs) (sym same) ∙ e) in
      let place : j ≡ length loaded = omega (arith, same, long) in
      let x : slice_index new j ≡ w = ap (λ xs. slice_index xs j) is ∙ item_last loaded w j place in
      ap (λ k. load_of m base (begins_at fs k) g.width) same ∙ ap (λ (y : FlatWord). load_of m base (begins_at fs i) y.width) (sym one) ∙ here ∙ ap Ok (sym x)
  | inr ne ↦
      let under : j < i = omega (arith, lt, ne) in
      let x : slice_index new j ≡ slice_index loaded j = ap (λ xs. slice_index xs j) is ∙ index_before loaded w j (omega (arith, under, long)) in
      h j g under e ∙ ap Ok (sym x)
]

pub loaded_all : (m : Memory) (base : ℕ) (fs : List FlatWord) (i : ℕ) (loaded : List ℕ) → length fs ≤ i → LoadedTo m base fs i loaded → AreLoaded m base fs loaded
loaded_all m base fs i loaded le h j f e = h j f (let w = slice_get_within fs j f e in omega (arith, w, le)) e

-- Blocks -------------------------------------------------------------------------------------------
module _ (leaf : Leaf) (ws : List ℕ) (m : Memory) (good : IsGood m) where
  in_blocks : (a j : ℕ) (f : FlatWord) (o : Option Block) → slice_get leaf.blocks a ≡ o → slice_get (words_of_block o) j ≡ Some f → a < length leaf.blocks
  in_blocks a j f None is e = absurd cc
  in_blocks a j f (Some block) is e = slice_get_within leaf.blocks a block is

  module _ (subs : List ℕ → List ℕ) (ats : ℕ → ℕ) (placed : LeafStands leaf ws m false subs ats) where
    small : (b : ℕ) → b < length leaf.blocks → ats b < 18446744073709551616
    small b lt =
        let g = got leaf.blocks b lt in
        let s = placed.blocks b g.0 g.1 in
        let bounds = block_bounds m.blocks (ats b) (size_of g.0) 64 m.next good.blocks s in
        let n = good.next in
        let l = good.limit in
        omega (arith, bounds, n, l)

    fine_root : FineWords Addresses [] (PartHolds subs ats) leaf.root ws 0
    fine_root j f e k q h =
        let x = placed.words (record { block = None; word = j }) f e in
        let z : 0 + j ≡ j = omega arith in
        let w : slice_index ws (0 + j) ≡ x.0 = ap (slice_index ws) z ∙ get_or_from_slice_get ws j x.0 0 x.1 in
        subst (λ y. PartHolds subs ats y q) (sym w) (x.2.parts k q h)

    module _ (b : ℕ) (block : Block) (at : slice_get leaf.blocks b ≡ Some block) where
      found : (j : ℕ) (f : FlatWord) → slice_get block.words j ≡ Some f → (w : ℕ) × (load_of m (ats b) (begins_at block.words j) f.width ≡ Ok w) × ((k : ℕ) (q : Part) → slice_get f.parts k ≡ Some q → PartHolds subs ats w q)
      found j f h =
          let is_flat : flat_at leaf (record { block = Some b; word = j }) ≡ Some f = ap (λ o. slice_get (words_of_block o) j) at ∙ h in
          let x = placed.words (record { block = Some b; word = j }) f is_flat in
          (x.0, ap (λ o. load_of m (ats b) (begins_at (words_of_block o) j) f.width) (sym at) ∙ x.1, x.2.parts)

      fine_block : (words : List ℕ) → AreLoaded m (ats b) block.words words → FineWords Addresses [] (PartHolds subs ats) block.words words 0
      fine_block words are j f h k q g =
          let x = found j f h in
          let l : slice_index words j ≡ x.0 = (let same = sym (are j f h) ∙ x.1 in cc) in
          let z : 0 + j ≡ j = omega arith in
          subst (λ y. PartHolds subs ats y q) (sym (ap (slice_index words) z ∙ l)) (x.2 k q g)

    -- the words of the root give addresses
    root_known : (table : List ℕ) → length table ≡ length leaf.blocks → Known leaf (length leaf.blocks) ats (put_words Addresses [] leaf.root ws 0 table)
    root_known table long (Some a) j f is k q e align c p from lt = absurd (let w = in_blocks a j f (slice_get leaf.blocks a) refl is in omega (arith, w, from))
    root_known table long None j f is k q e align c p from lt =
        (words_make Addresses [] (PartHolds subs ats) (λ t. length t ≡ length leaf.blocks) (long_step subs ats (length leaf.blocks) small)
        (IsAt subs ats (length leaf.blocks) small c) (address_step subs ats (length leaf.blocks) small c)
        (PointsAt subs ats (length leaf.blocks) small c) (λ w x t holds h l. address_make subs ats (length leaf.blocks) small c w x t lt holds h l)
        leaf.root ws 0 table fine_root long j f is k q e (align, p)).2

    -- and so do those of a block, beside the ones that are known
    block_known : (b : ℕ) (block : Block) → slice_get leaf.blocks b ≡ Some block → (words : List ℕ) → AreLoaded m (ats b) block.words words → (table : List ℕ) → length table ≡ length leaf.blocks
        → Known leaf (b + 1) ats table → Known leaf b ats (put_words Addresses [] block.words words 0 table)
    block_known b block at words are table long known o j f is k q e align c p from lt = go o is from
      where
        kept : slice_index table c ≡ ats c → slice_index (put_words Addresses [] block.words words 0 table) c ≡ ats c
        kept h = (words_keep Addresses [] (PartHolds subs ats) (IsAt subs ats (length leaf.blocks) small c) (address_step subs ats (length leaf.blocks) small c) block.words words 0 table (fine_block b block at words are) (long, lt, h)).2

        made : slice_get block.words j ≡ Some f → slice_index (put_words Addresses [] block.words words 0 table) c ≡ ats c
        made h =
            (words_make Addresses [] (PartHolds subs ats) (λ t. length t ≡ length leaf.blocks) (long_step subs ats (length leaf.blocks) small)
            (IsAt subs ats (length leaf.blocks) small c) (address_step subs ats (length leaf.blocks) small c)
            (PointsAt subs ats (length leaf.blocks) small c) (λ w x t holds g l. address_make subs ats (length leaf.blocks) small c w x t lt holds g l)
            block.words words 0 table (fine_block b block at words are) long j f h k q e (align, p)).2

        go : (x : Option ℕ) → slice_get (words_in leaf x) j ≡ Some f → IsFrom b x → slice_index (put_words Addresses [] block.words words 0 table) c ≡ ats c
        go None h le = kept (known None j f h k q e align c p tt lt)
        go (Some a) h le = elim (cases_eq a b) [
          | inl same ↦ made (ap (λ x. slice_get (words_of_block x) j) (sym (ap (slice_get leaf.blocks) same ∙ at)) ∙ h)
          | inr ne ↦ kept (known (Some a) j f h k q e align c p (less a b le ne) lt)
        ]

  module _ (can : IsLoadable leaf ws m) where
    pub loading_start : (zeros table : List ℕ) → zeros ≡ replicate (length leaf.blocks) 0 → table ≡ put_words Addresses [] leaf.root ws 0 zeros → Loading leaf ws m (length leaf.blocks) table []
    loading_start zeros table are is =
        let long : length zeros ≡ length leaf.blocks = ap length are ∙ length-replicate (length leaf.blocks) 0 in
        record {
          long = ap length is ∙ words_keep Addresses [] (PartHolds can.subs can.ats) (λ t. length t ≡ length leaf.blocks) (long_step can.subs can.ats (length leaf.blocks) (small can.subs can.ats can.placed))
              leaf.root ws 0 zeros (fine_root can.subs can.ats can.placed) long;
          count = omega arith;
          known = λ subs ats placed. subst (Known leaf (length leaf.blocks) ats) (sym is) (root_known subs ats placed zeros long);
          words = λ subs ats placed a c block e le at. absurd (omega (arith, e, le));
        }

    module _ (b : ℕ) (block : Block) (at : slice_get leaf.blocks b ≡ Some block) (addresses : List ℕ) (loaded : List (List ℕ)) (h : Loading leaf ws m (b + 1) addresses loaded) where
      -- the address of the next block is known
      pub base_is : (subs : List ℕ → List ℕ) (ats : ℕ → ℕ) → LeafStands leaf ws m false subs ats → slice_index addresses b ≡ ats b
      base_is subs ats placed =
          let q = can.flat.pointed b block at in
          h.known subs ats placed q.0.block q.0.word q.2.word q.2.is_word q.2.number q.2.part q.2.is_part block.align b q.2.is_pointer (above q.0.block q.3) (slice_get_within leaf.blocks b block at)
        where
          above : (o : Option ℕ) → IsAbove o b → IsFrom (b + 1) o
          above None x = tt
          above (Some a) x = omega (arith, x)

      pub can_load : CanLoad m (slice_index addresses b) block.words
      can_load j f g =
          let x = found can.subs can.ats can.placed b block at j f g in
          (can.widths b block j f at g, (x.0, ap (λ a. load_of m a (begins_at block.words j) f.width) (base_is can.subs can.ats can.placed) ∙ x.1))

      pub loading_next : (words new : List ℕ) (more : List (List ℕ)) → AreLoaded m (slice_index addresses b) block.words words → new ≡ put_words Addresses [] block.words words 0 addresses → more ≡ loaded ++ words ∷ []
          → Loading leaf ws m b new more
      loading_next words new more are is_new is_more =
          let here : (subs : List ℕ → List ℕ) (ats : ℕ → ℕ) → LeafStands leaf ws m false subs ats → AreLoaded m (ats b) block.words words =
          λ subs ats placed. subst (λ a. AreLoaded m a block.words words) (base_is subs ats placed) are in
          let n = h.count in
          record {
            long = ap length is_new ∙ words_keep Addresses [] (PartHolds can.subs can.ats) (λ t. length t ≡ length leaf.blocks) (long_step can.subs can.ats (length leaf.blocks) (small can.subs can.ats can.placed))
                block.words words 0 addresses (fine_block can.subs can.ats can.placed b block at words (here can.subs can.ats can.placed)) h.long;
            count = (let l = ap length is_more ∙ length-append loaded (words ∷ []) in omega (arith, l, n));
            known = λ subs ats placed. subst (Known leaf b ats) (sym is_new) (block_known subs ats placed b block at words (here subs ats placed) addresses h.long (h.known subs ats placed));
            words = λ subs ats placed a c other e le is. elim (cases_eq a b) [
              | inl same ↦
                  let one : block ≡ other = same_Some block other (sym at ∙ ap (slice_get leaf.blocks) (sym same) ∙ is) in
                  let place : c ≡ length loaded = omega (arith, e, same, n) in
                  let w : slice_index_or more c [] ≡ words = ap (λ xs. slice_index_or xs c []) is_more ∙ last loaded words c place in
                  subst (λ x. AreLoaded m (ats x) other.words (slice_index_or more c [])) (sym same)
                  (subst (λ xs. AreLoaded m (ats b) other.words xs) (sym w) (subst (λ (x : Block). AreLoaded m (ats b) x.words words) one (here subs ats placed)))
              | inr ne ↦
                  let up : b + 1 ≤ a = less a b le ne in
                  let place : c < length loaded = omega (arith, e, up, n) in
                  let w : slice_index_or more c [] ≡ slice_index_or loaded c [] = ap (λ xs. slice_index_or xs c []) is_more ∙ before loaded words c place in
                  subst (λ xs. AreLoaded m (ats a) other.words xs) (sym w) (h.words subs ats placed a c other e up is)
            ];
          }

    pub loading_done : (addresses : List ℕ) (loaded : List (List ℕ)) → Loading leaf ws m 0 addresses loaded → AreWordsOf leaf ws m loaded
    loading_done addresses loaded h =
        let n = h.count in
        record { count = omega (arith, n); words = λ subs ats placed b c block e at. h.words subs ats placed b c block e (omega arith) at }
