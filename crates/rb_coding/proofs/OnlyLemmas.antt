-- Memories that have some of their blocks and no others.
use Rattle.std.proofs.Common.{◌≡◌, ℕ, ◌+◌, ◌/◌, ◌≤◌, true, inl, inr, map, List, [], ◌∷◌, ◌++◌, Option, Some, None, Ok, refl, sym, subst, ap, ◌∙◌, arith, append_assoc, append-nil}
use Rattle.std.proofs.lemmas.Bool.Decides.{eqb_tells}
use Rattle.rb_bytes.specs.Memory.{Memory, AreBlocks, IsGood, least_multiple, byte_at, load_of, size_at, lies_within}
use Rattle.rb_bytes.specs.Growth.{Grown, AreWhole}
use Rattle.rb_bytes.specs.Laws.{Extends}
use Rattle.rb_bytes.proofs.BlockLemmas.{block_bounds, size_at-append, within_size}
use Rattle.rb_bytes.proofs.ByteLemmas.{read_le_kept}
use Rattle.rb_bytes.proofs.MemoryLemmas.{load_ok, load_within}
use Rattle.rb_core.specs.declared.value.Value.{Value}
use Rattle.rb_core.specs.declared.types.Ty.{Ty}
use Rattle.rb_core.specs.declared.types.DataDecl.{DataDecl}
use Rattle.rb_layout.specs.declared.layout.Block.{Block}
use Rattle.rb_layout.specs.declared.layout.FlatWord.{FlatWord}
use Rattle.rb_layout.specs.declared.layout.Leaf.{Leaf}
use Rattle.rb_layout.specs.declared.layout.Layout.{Layout}
use Rattle.rb_layout.specs.Words.{begins_at, size_of}
use Rattle.rb_rel.specs.Answers.{making_of}
use Rattle.rb_rel.specs.Placing.{Fits, Request, request_of, requests_of, lay}
use Rattle.rb_rel.specs.Relation.{IsFound, LeafStands, Made, Represents, number, built, Represent}
use Rattle.rb_rel.proofs.Elsewhere.{made_elsewhere}
use Rattle.rb_rel.proofs.Growth.{Represents-kept}
use Rattle.rb_rel.proofs.Storing.{laid_more}
use Rattle.rb_rel.specs.Storing.{with_block, with_blocks}
use Rattle.rb_coding.specs.Encoding.{only, StandsAlone, StandApart}
use Rattle.rb_coding.specs.inner.Filling.{Progress}

-- Lists of blocks ------------------------------------------------------------------------------------
blocks_earlier : (bs : List (ℕ × ℕ)) (low from to : ℕ) → low ≤ from → AreBlocks from bs to → AreBlocks low bs to
blocks_earlier [] low from to le are = omega (arith, le, are)
blocks_earlier (b ∷ bs) low from to le are = (omega (arith, le, are.0), are.1, are.2)

blocks_behind : (xs ys : List (ℕ × ℕ)) (from to : ℕ) → AreBlocks from (xs ++ ys) to → AreBlocks from ys to
blocks_behind [] ys from to are = are
blocks_behind (x ∷ xs) ys from to are = blocks_earlier ys from (x.0 + x.1) to (omega (arith, are.0)) (blocks_behind xs ys (x.0 + x.1) to are.2)

-- a block behind others is found among all
size_at-behind : (xs ys : List (ℕ × ℕ)) (from to base size : ℕ) → AreBlocks from (xs ++ ys) to → size_at ys base ≡ Some size → size_at (xs ++ ys) base ≡ Some size
size_at-behind [] ys from to base size are is = is
size_at-behind (x ∷ xs) ys from to base size are is =
    let rest = size_at-behind xs ys (x.0 + x.1) to base size are.2 is in
    let low = (block_bounds (xs ++ ys) base size (x.0 + x.1) to are.2 rest).0 in
    elim (eqb_tells x.0 base) [
      | inl h ↦ absurd (omega (arith, h.1, low, are.1))
      | inr h ↦ rw h.0 rest
    ]

-- the new blocks alone are those of a good memory
pub good_only : (old m : Memory) (bs : List (ℕ × ℕ)) (p : ℕ) → Grown old m bs p → IsGood (only m bs)
good_only old m bs p g = record {
  blocks = blocks_behind old.blocks bs 64 m.next (subst (λ xs. AreBlocks 64 xs m.next) g.behind g.good.blocks);
  next = g.good.next;
  limit = g.good.limit;
  long = g.good.long;
  small = g.good.small;
  fresh = g.good.fresh;
}

whole_only : (m : Memory) (own bs : List (ℕ × ℕ)) → AreWhole m bs → AreWhole (only m own) bs
whole_only m own [] w = tt
whole_only m own (b ∷ bs) w = (w.0, whole_only m own bs w.1)

-- what grows by blocks grows by them over any of its blocks
pub progress_only : (m m' : Memory) (rs : List Request) (own bs : List (ℕ × ℕ)) → Progress m m' rs bs → IsGood (only m' (own ++ bs)) → Progress (only m own) (only m' (own ++ bs)) rs bs
progress_only m m' rs own bs p good = record {
  lays = p.lays;
  before = p.before;
  grown = record {
    limit = p.grown.limit;
    next = p.grown.next;
    rises = p.grown.rises;
    behind = refl;
    kept = p.grown.kept;
    whole = whole_only m' (own ++ bs) bs p.grown.whole;
    good = good;
  };
}

-- filling blocks reads none of the blocks that are there
pub filled_only : (made : FlatWord → ℕ) (blocks : List Block) (m : Memory) (own bs : List (ℕ × ℕ)) (p : ℕ) → lay m.limit m.next (map request_of blocks) ≡ Fits bs p
    → with_blocks made (only m own) blocks ≡ only (with_blocks made m blocks) (own ++ bs)
filled_only made [] m own bs p e = let none : bs ≡ [] = cc in ap (only m) (sym (append-nil own) ∙ ap (λ xs. own ++ xs) (sym none))
filled_only made (b ∷ blocks) m own bs p e =
    let l = laid_more made m.limit m.next (request_of b) (map request_of blocks) bs p e in
    let at : ℕ × ℕ = (least_multiple m.next b.align, size_of b) in
    filled_only made blocks (with_block made m b) (own ++ at ∷ []) l.1 p l.2
    ∙ ap (only (with_blocks made (with_block made m b) blocks)) (append_assoc own (at ∷ []) l.1 ∙ ap (λ xs. own ++ xs) (sym l.3))

-- Representations ------------------------------------------------------------------------------------

-- a memory with the same bytes, and more blocks
pub record IsWider (m m' : Memory) : Type 0 where
  pub sized : (base size : ℕ) → size_at m.blocks base ≡ Some size → size_at m'.blocks base ≡ Some size
  pub written : (a b : ℕ) → byte_at m.bytes a ≡ Some b → byte_at m'.bytes a ≡ Some b

module _ (m m' : Memory) (wider : IsWider m m') where
  load_wider : (base offset width r : ℕ) → load_of m base offset width ≡ Ok r → load_of m' base offset width ≡ Ok r
  load_wider base offset width r is =
      let got = load_ok m base offset width r is in
      let size = within_size (size_at m.blocks base) (offset + width / 8) got.0 in
      load_within m' base offset width (ap (λ o. lies_within o (offset + width / 8)) (wider.sized base size.0 size.1 ∙ sym size.1) ∙ got.0)
      ∙ read_le_kept m.bytes m'.bytes (width / 8) (base + offset) r wider.written got.1

  found_wider : (b : Option ℕ) (fs : List FlatWord) (f : FlatWord) (j : ℕ) (ws : List ℕ) (ats : ℕ → ℕ) (w : ℕ) → IsFound b fs f j ws ats m w → IsFound b fs f j ws ats m' w
  found_wider None fs f j ws ats w e = e
  found_wider (Some b) fs f j ws ats w e = load_wider (ats b) (begins_at fs j) f.width w e

  placed_wider : (leaf : Leaf) (ws : List ℕ) (subs : List ℕ → List ℕ) (ats : ℕ → ℕ) → LeafStands leaf ws m true subs ats → LeafStands leaf ws m' true subs ats
  placed_wider leaf ws subs ats p = record {
    count = p.count;
    blocks = λ b block is. wider.sized _ _ (p.blocks b block is);
    words = λ r f is. let h = p.words r f is in (h.0, found_wider r.block _ f r.word ws ats h.0 h.1, h.2);
  }

  module _ (types : List DataDecl) (layouts : List Layout) where
    abbrev made_wider : (t : ℕ) (v : Value) (ws : List ℕ) → Made types layouts m true t v ws → Made types layouts m' true t v ws
    made_wider t v ws b = made_elsewhere types layouts m m' true true t v ws b (placed_wider b.leaf ws b.subs b.ats b.placed)

    pub represents_wider : {ty : Ty} {v : Value} {ws : List ℕ} → Represents types layouts m true ty v ws → Represents types layouts m' true ty v ws
    represents_wider (number bits x lt) = number bits x lt
    represents_wider (built t v ws b below) = built t v ws (made_wider t v ws b) (λ k o e. represents_wider (below k o e))

-- some blocks of a good memory
among : (m : Memory) (xs own ys : List (ℕ × ℕ)) → IsGood m → m.blocks ≡ xs ++ (own ++ ys) → IsWider (only m own) m
among m xs own ys good is = record {
  sized = λ base size e.
      ap (λ bs. size_at bs base) is
      ∙ size_at-behind xs (own ++ ys) 64 m.next base size (subst (λ bs. AreBlocks 64 bs m.next) is good.blocks) (size_at-append own ys base size e);
  written = λ a b e. e;
}

module _ (types : List DataDecl) (layouts : List Layout) where
  -- values that stand apart are represented in the whole memory
  represented_among : (m : Memory) → IsGood m → (ts : List Ty) (vs : List Value) (xs blocks : List (ℕ × ℕ)) (from to : ℕ) (ws : List ℕ) → m.blocks ≡ xs ++ blocks
      → StandApart types layouts m ts vs from blocks to ws → Represent types layouts m true ts vs ws
  represented_among m good [] [] xs blocks from to ws is s = s.2
  represented_among m good [] (v ∷ vs) xs blocks from to ws is s = absurd s
  represented_among m good (t ∷ ts) [] xs blocks from to ws is s = absurd s
  represented_among m good (t ∷ ts) (v ∷ vs) xs blocks from to ws is (own, others, mid, first, rest, bs, words, alone, more) =
      let whole : m.blocks ≡ xs ++ (own ++ others) = is ∙ ap (λ ys. xs ++ ys) bs in (
        first,
        rest,
        words,
        represents_wider (only m own) m (among m xs own others good whole) types layouts alone.represents,
        represented_among m good ts vs (xs ++ own) others mid to rest (whole ∙ sym (append_assoc xs own others)) more,
      )

  pub represented_apart : (old m : Memory) (ts : List Ty) (vs : List Value) (blocks : List (ℕ × ℕ)) (p from to : ℕ) (ws : List ℕ) → Grown old m blocks p
      → StandApart types layouts m ts vs from blocks to ws → Represent types layouts m true ts vs ws
  represented_apart old m ts vs blocks p from to ws g s = represented_among m g.good ts vs old.blocks blocks from to ws g.behind s

  -- a memory that grows keeps what stands over blocks of its own
  pub extends_only : (m m' : Memory) (own : List (ℕ × ℕ)) → Extends m m' → Extends (only m own) (only m' own)
  extends_only m m' own ex = record { limit = ex.limit; next = ex.next; blocks = ([], sym (append-nil own)); written = ex.written }

  pub alone_kept : (m m' : Memory) → Extends m m' → (t : Ty) (v : Value) (from : ℕ) (own : List (ℕ × ℕ)) (to : ℕ) (ws : List ℕ)
      → StandsAlone types layouts m t v from own to ws → StandsAlone types layouts m' t v from own to ws
  alone_kept m m' ex t v from own to ws s = record {
    laid = ap (λ limit. lay limit from (requests_of layouts (making_of types v t))) ex.limit ∙ s.laid;
    represents = Represents-kept (only m own) (only m' own) (extends_only m m' own ex) types layouts true s.represents;
  }

  pub apart_kept : (m m' : Memory) → Extends m m' → (ts : List Ty) (vs : List Value) (from : ℕ) (blocks : List (ℕ × ℕ)) (to : ℕ) (ws : List ℕ)
      → StandApart types layouts m ts vs from blocks to ws → StandApart types layouts m' ts vs from blocks to ws
  apart_kept m m' ex [] [] from blocks to ws s = s
  apart_kept m m' ex [] (v ∷ vs) from blocks to ws s = absurd s
  apart_kept m m' ex (t ∷ ts) [] from blocks to ws s = absurd s
  apart_kept m m' ex (t ∷ ts) (v ∷ vs) from blocks to ws (own, others, mid, first, rest, bs, words, alone, more) =
      (own, others, mid, first, rest, bs, words, alone_kept m m' ex t v from own mid first alone, apart_kept m m' ex ts vs mid others to rest more)

  -- one value more
  pub apart_snoc : (m : Memory) (ts : List Ty) (vs : List Value) (from : ℕ) (blocks : List (ℕ × ℕ)) (mid : ℕ) (ws : List ℕ) (t : Ty) (v : Value) (own : List (ℕ × ℕ)) (to : ℕ) (w : List ℕ)
      → StandApart types layouts m ts vs from blocks mid ws → StandsAlone types layouts m t v mid own to w
      → StandApart types layouts m (ts ++ t ∷ []) (vs ++ v ∷ []) from (blocks ++ own) to (ws ++ w)
  apart_snoc m [] [] from blocks mid ws t v own to w s h =
      (own, [], to, w, [], ap (λ xs. xs ++ own) s.1 ∙ sym (append-nil own), ap (λ xs. xs ++ w) s.2 ∙ sym (append-nil w), subst (λ n. StandsAlone types layouts m t v n own to w) (sym s.0) h, (refl, refl, refl))
  apart_snoc m [] (u ∷ vs) from blocks mid ws t v own to w s h = absurd s
  apart_snoc m (s' ∷ ts) [] from blocks mid ws t v own to w s h = absurd s
  apart_snoc m (s' ∷ ts) (u ∷ vs) from blocks mid ws t v own to w (mine, others, at, first, rest, bs, words, alone, more) h =
      (mine, others ++ own, at, first, rest ++ w, ap (λ xs. xs ++ own) bs ∙ append_assoc mine others own, ap (λ xs. xs ++ w) words ∙ append_assoc first rest w, alone, apart_snoc m ts vs at others mid rest t v own to w more h)
