-- Memories that grow by blocks.
use Rattle.std.proofs.Common.{◌≡◌, ℕ, zero, suc, ◌+◌, ◌/◌, ◌<◌, ◌≤◌, inl, inr, length, map, take, List, [], ◌∷◌, ◌++◌, Bool, true, false, Option, Some, Result, Ok, Err, refl, sym, subst, ap, ◌∙◌, arith, append_assoc, append-nil}
use Rattle.std.specs.Prelude.{slice_get, slice_index, leb, if◌then◌else◌}
use Rattle.std.proofs.lemmas.Bool.Decides.{leb_tells}
use Rattle.std.proofs.lemmas.Option.{same_Some}
use Rattle.rb_bytes.specs.Memory.{Memory, IsGood, least_multiple, place_of, write_le}
use Rattle.rb_bytes.specs.Growth.{Grown}
use Rattle.rb_bytes.specs.declared.fault.Full.{Full}
use Rattle.rb_bytes.proofs.GrowthLemmas.{Grown-refl, Grown-trans}
use Rattle.rb_layout.specs.declared.layout.Block.{Block}
use Rattle.rb_layout.specs.declared.layout.FlatWord.{FlatWord}
use Rattle.rb_layout.specs.declared.layout.Part.{Part}
use Rattle.rb_layout.specs.declared.layout.Kind.{Kind}
use Rattle.rb_layout.specs.declared.layout.Kind.TheVariants.{Const, Bits, Word, Pointer}
use Rattle.rb_layout.specs.Words.{size_of, begins_at}
use Rattle.rb_rel.specs.Placing.{Laid, Fits, Over, Request, request_of, block_before, lay}
use Rattle.rb_rel.specs.Storing.{number_of, with_words, with_block, with_blocks, address_at}
use Rattle.rb_rel.proofs.Storing.{IsBlock, filled_grown}
use Rattle.rb_coding.specs.Encoding.{laid_before}
use Rattle.rb_coding.specs.inner.Filling.{behind_all, Progress, Stopped}
use Rattle.rb_coding.specs.Packing.{put_into, word_of_parts}

behind_more : (bs cs : List (ℕ × ℕ)) (l : Laid) → behind_all bs (behind_all cs l) ≡ behind_all (bs ++ cs) l
behind_more [] cs l = refl
behind_more (b ∷ bs) cs l = ap (block_before b) (behind_more bs cs l)

behind_over : (bs : List (ℕ × ℕ)) (full : Full) → behind_all bs (Over full) ≡ Over full
behind_over [] full = refl
behind_over (b ∷ bs) full = ap (block_before b) (behind_over bs full)

behind_fits : (bs : List (ℕ × ℕ)) (next : ℕ) → behind_all bs (Fits [] next) ≡ Fits bs next
behind_fits [] next = refl
behind_fits (b ∷ bs) next = ap (block_before b) (behind_fits bs next)

pub progress_none : (m : Memory) → IsGood m → Progress m m [] []
progress_none m good = record { lays = λ qs. refl; before = λ qs. refl; grown = Grown-refl m good }

pub progress_trans : (a b c : Memory) (rs qs : List Request) (bs cs : List (ℕ × ℕ)) → Progress a b rs bs → Progress b c qs cs → Progress a c (rs ++ qs) (bs ++ cs)
progress_trans a b c rs qs bs cs p q = record {
  lays = λ ps. ap (lay a.limit a.next) (append_assoc rs qs ps) ∙ p.lays (qs ++ ps) ∙ ap (behind_all bs) (q.lays ps) ∙ behind_more bs cs (lay c.limit c.next ps);
  before = λ ps. ap (laid_before a.limit a.next) (append_assoc rs qs ps) ∙ p.before (qs ++ ps) ∙ ap (λ xs. bs ++ xs) (q.before ps) ∙ sym (append_assoc bs cs (laid_before c.limit c.next ps));
  grown = Grown-trans a b c bs cs b.next c.next p.grown q.grown;
}

pub stop_after : (a b c : Memory) (rs qs : List Request) (bs : List (ℕ × ℕ)) (full : Full) → Progress a b rs bs → Stopped b c qs full → Stopped a c (rs ++ qs) full
stop_after a b c rs qs bs full p s = record {
  bs = bs ++ s.bs;
  over = λ ps. ap (lay a.limit a.next) (append_assoc rs qs ps) ∙ p.lays (qs ++ ps) ∙ ap (behind_all bs) (s.over ps) ∙ behind_over bs full;
  before = λ ps. ap (laid_before a.limit a.next) (append_assoc rs qs ps) ∙ p.before (qs ++ ps) ∙ ap (λ xs. bs ++ xs) (s.before ps);
  grown = Grown-trans a b c bs s.bs b.next full.next p.grown s.grown;
}

pub stop_wider : (a c : Memory) (rs qs : List Request) (full : Full) → Stopped a c rs full → Stopped a c (rs ++ qs) full
stop_wider a c rs qs full s = record {
  bs = s.bs;
  over = λ ps. ap (lay a.limit a.next) (append_assoc rs qs ps) ∙ s.over (qs ++ ps);
  before = λ ps. ap (laid_before a.limit a.next) (append_assoc rs qs ps) ∙ s.before (qs ++ ps);
  grown = s.grown;
}

-- what progress over all requests comes to
pub progress_fits : (a b : Memory) (rs : List Request) (bs : List (ℕ × ℕ)) → Progress a b rs bs → lay a.limit a.next rs ≡ Fits bs b.next
progress_fits a b rs bs p = ap (lay a.limit a.next) (sym (append-nil rs)) ∙ p.lays [] ∙ behind_fits bs b.next

pub stopped_over : (a b : Memory) (rs : List Request) (full : Full) → Stopped a b rs full → (lay a.limit a.next rs ≡ Over full) × Grown a b (laid_before a.limit a.next rs) full.next
stopped_over a b rs full s =
    let e : laid_before a.limit a.next rs ≡ s.bs = ap (laid_before a.limit a.next) (sym (append-nil rs)) ∙ s.before [] in
    (ap (lay a.limit a.next) (sym (append-nil rs)) ∙ s.over [], subst (λ xs. Grown a b xs full.next) (sym e) s.grown)

-- One block --------------------------------------------------------------------------------------
module _ (m : Memory) (size align : ℕ) where
  abbrev base : ℕ
  base = least_multiple m.next align

  abbrev refused : Full
  refused = record { next = m.next; size = size; align = align; limit = m.limit }

  abbrev placed : Memory
  placed = record m { next = base + size; blocks = m.blocks ++ (base, size) ∷ [] }

  pub record IsPlace (m' : Memory) (a : ℕ) : Type 0 where
    pub room : base + size ≤ m.limit
    pub fits : leb (base + size) m.limit ≡ true
    pub is_base : a ≡ base
    pub is_memory : m' ≡ placed

  pub record IsNoPlace (m' : Memory) (full : Full) : Type 0 where
    pub over : leb (base + size) m.limit ≡ false
    pub is_full : full ≡ refused
    pub is_memory : m' ≡ m

  abbrev placing : Bool → Result ℕ Full × Memory
  placing b = if b then (Ok base, placed) else (Err refused, m)

  pub place_ok : (a : ℕ) (m' : Memory) → (Ok a, m') ≡ place_of m size align → IsPlace m' a
  place_ok a m' e = elim (leb_tells (base + size) m.limit) [
    | inl t ↦ (let h : ◌≡◌ {A = Result ℕ Full × Memory} (Ok a, m') (Ok base, placed) = e ∙ ap placing t.0 in record { room = t.1; fits = t.0; is_base = (let x : ◌≡◌ {A = Result ℕ Full} (Ok a) (Ok base) = ap (λ (y : Result ℕ Full × Memory). y.0) h in cc); is_memory = ap (λ (y : Result ℕ Full × Memory). y.1) h })
    | inr f ↦ absurd (let h : ◌≡◌ {A = Result ℕ Full × Memory} (Ok a, m') (Err refused, m) = e ∙ ap placing f.0 in let x : ◌≡◌ {A = Result ℕ Full} (Ok a) (Err refused) = ap (λ (y : Result ℕ Full × Memory). y.0) h in cc)
  ]

  pub place_err : (full : Full) (m' : Memory) → (Err full, m') ≡ place_of m size align → IsNoPlace m' full
  place_err full m' e = elim (leb_tells (base + size) m.limit) [
    | inl t ↦ absurd (let h : ◌≡◌ {A = Result ℕ Full × Memory} (Err full, m') (Ok base, placed) = e ∙ ap placing t.0 in let x : ◌≡◌ {A = Result ℕ Full} (Err full) (Ok base) = ap (λ (y : Result ℕ Full × Memory). y.0) h in cc)
    | inr f ↦ (let h : ◌≡◌ {A = Result ℕ Full × Memory} (Err full, m') (Err refused, m) = e ∙ ap placing f.0 in record { over = f.0; is_full = (let x : ◌≡◌ {A = Result ℕ Full} (Err full) (Err refused) = ap (λ (y : Result ℕ Full × Memory). y.0) h in cc); is_memory = ap (λ (y : Result ℕ Full × Memory). y.1) h })
  ]

pub progress_one : (m : Memory) → IsGood m → (block : Block) → IsBlock block → (number : FlatWord → ℕ) → leb (least_multiple m.next block.align + size_of block) m.limit ≡ true
    → least_multiple m.next block.align + size_of block ≤ m.limit → Progress m (with_block number m block) (request_of block ∷ []) ((least_multiple m.next block.align, size_of block) ∷ [])
progress_one m good block is number fits room =
    let a = least_multiple m.next block.align in
    record {
      lays = λ qs. ap (λ b. if b then block_before (a, size_of block) (lay m.limit (a + size_of block) qs) else Over (record { next = m.next; size = size_of block; align = block.align; limit = m.limit })) fits;
      before = λ qs. ap (λ b. if b then (a, size_of block) ∷ laid_before m.limit (a + size_of block) qs else []) fits;
      grown = filled_grown m good block is number room;
    }

pub stop_one : (m : Memory) → IsGood m → (r : Request) → leb (least_multiple m.next r.align + r.size) m.limit ≡ false
    → Stopped m m (r ∷ []) (record { next = m.next; size = r.size; align = r.align; limit = m.limit })
stop_one m good r over =
    let a = least_multiple m.next r.align in
    record {
      bs = [];
      over = λ qs. ap (λ b. if b then block_before (a, r.size) (lay m.limit (a + r.size) qs) else Over (record { next = m.next; size = r.size; align = r.align; limit = m.limit })) over;
      before = λ qs. ap (λ b. if b then (a, r.size) ∷ laid_before m.limit (a + r.size) qs else []) over;
      grown = Grown-refl m good;
    }

-- Words of blocks ---------------------------------------------------------------------------------
written_more' : (number : FlatWord → ℕ) (fs : List FlatWord) (i : ℕ) (f : FlatWord) (at : ℕ) (bytes : List (Option ℕ)) → slice_get fs i ≡ Some f
    → with_words number (take (suc i) fs) at bytes ≡ write_le (with_words number (take i fs) at bytes) (f.width / 8) (at + begins_at fs i) (number f)
written_more' number [] i f at bytes is = absurd cc
written_more' number (g ∷ fs) zero f at bytes is =
    let z : at ≡ at + 0 = omega arith in
    ap (λ (x : FlatWord). write_le bytes (x.width / 8) at (number x)) (same_Some g f is) ∙ ap (λ a. write_le bytes (f.width / 8) a (number f)) z
written_more' number (g ∷ fs) (suc i) f at bytes is =
    let z : at + g.width / 8 + begins_at fs i ≡ at + (g.width / 8 + begins_at fs i) = omega arith in
    written_more' number fs i f (at + g.width / 8) (write_le bytes (g.width / 8) at (number g)) is
    ∙ ap (λ a. write_le (with_words number (take i fs) (at + g.width / 8) (write_le bytes (g.width / 8) at (number g))) (f.width / 8) a (number f)) z

pub written_more : (number : FlatWord → ℕ) (fs : List FlatWord) (i : ℕ) (f : FlatWord) (at : ℕ) (bytes : List (Option ℕ)) → slice_get fs i ≡ Some f
    → with_words number (take (i + 1) fs) at bytes ≡ write_le (with_words number (take i fs) at bytes) (f.width / 8) (at + begins_at fs i) (number f)
written_more number fs i f at bytes is = let z : suc i ≡ i + 1 = omega arith in subst (λ n. with_words number (take n fs) at bytes ≡ write_le (with_words number (take i fs) at bytes) (f.width / 8) (at + begins_at fs i) (number f)) z (written_more' number fs i f at bytes is)

begins_more' : (fs : List FlatWord) (i : ℕ) (f : FlatWord) → slice_get fs i ≡ Some f → begins_at fs (suc i) ≡ begins_at fs i + f.width / 8
begins_more' [] i f is = absurd cc
begins_more' (g ∷ fs) zero f is = let e = ap (λ (x : FlatWord). x.width / 8) (same_Some g f is) in omega (arith, e)
begins_more' (g ∷ fs) (suc i) f is = let r = begins_more' fs i f is in omega (arith, r)

pub begins_more : (fs : List FlatWord) (i : ℕ) (f : FlatWord) → slice_get fs i ≡ Some f → begins_at fs (i + 1) ≡ begins_at fs i + f.width / 8
begins_more fs i f is = let z : suc i ≡ i + 1 = omega arith in subst (λ n. begins_at fs n ≡ begins_at fs i + f.width / 8) z (begins_more' fs i f is)

abbrev SameOn : (FlatWord → ℕ) → (FlatWord → ℕ) → List FlatWord → Type 0
SameOn number number' fs = (j : ℕ) (f : FlatWord) → slice_get fs j ≡ Some f → number f ≡ number' f

pub written_same : (number number' : FlatWord → ℕ) (fs : List FlatWord) (at : ℕ) (bytes : List (Option ℕ)) → SameOn number number' fs → with_words number fs at bytes ≡ with_words number' fs at bytes
written_same number number' [] at bytes s = refl
written_same number number' (f ∷ fs) at bytes s =
    ap (λ n. with_words number fs (at + f.width / 8) (write_le bytes (f.width / 8) at n)) (s 0 f refl)
    ∙ written_same number number' fs (at + f.width / 8) (write_le bytes (f.width / 8) at (number' f)) (λ j x e. s (suc j) x e)

pub filled_same : (number number' : FlatWord → ℕ) (m : Memory) (block : Block) → SameOn number number' block.words → with_block number m block ≡ with_block number' m block
filled_same number number' m block s =
    let a = least_multiple m.next block.align in
    ap (λ (bytes : List (Option ℕ)). record { limit = m.limit; next = a + size_of block; blocks = m.blocks ++ (a, size_of block) ∷ []; bytes = bytes }) (written_same number number' block.words a m.bytes s)

pub fill_same : (number number' : FlatWord → ℕ) (m : Memory) (blocks : List Block) → ((b : ℕ) (block : Block) → slice_get blocks b ≡ Some block → SameOn number number' block.words) → with_blocks number m blocks ≡ with_blocks number' m blocks
fill_same number number' m [] s = refl
fill_same number number' m (block ∷ blocks) s =
    ap (λ (x : Memory). with_blocks number x blocks) (filled_same number number' m block (s 0 block refl)) ∙ fill_same number number' (with_block number' m block) blocks (λ b x e. s (suc b) x e)

fill_more' : (number : FlatWord → ℕ) (m : Memory) (blocks : List Block) (i : ℕ) (block : Block) → slice_get blocks i ≡ Some block → with_blocks number m (take (suc i) blocks) ≡ with_block number (with_blocks number m (take i blocks)) block
fill_more' number m [] i block is = absurd cc
fill_more' number m (x ∷ blocks) zero block is = ap (with_block number m) (same_Some x block is)
fill_more' number m (x ∷ blocks) (suc i) block is = fill_more' number (with_block number m x) blocks i block is

pub fill_more : (number : FlatWord → ℕ) (m : Memory) (blocks : List Block) (i : ℕ) (block : Block) → slice_get blocks i ≡ Some block → with_blocks number m (take (i + 1) blocks) ≡ with_block number (with_blocks number m (take i blocks)) block
fill_more number m blocks i block is = let z : suc i ≡ i + 1 = omega arith in subst (λ n. with_blocks number m (take n blocks) ≡ with_block number (with_blocks number m (take i blocks)) block) z (fill_more' number m blocks i block is)

-- words whose pointers lead to the same addresses are the same
number_same : (subs : List ℕ → List ℕ) (ats ats' : ℕ → ℕ) (l : ℕ) (kind : Kind) → ((align c : ℕ) → kind ≡ Pointer align c → ats c ≡ ats' c) → number_of subs ats l kind ≡ number_of subs ats' l kind
number_same subs ats ats' l (Const c) s = refl
number_same subs ats ats' l (Bits path a) s = refl
number_same subs ats ats' l (Word path j) s = refl
number_same subs ats ats' l (Pointer align c) s = ap (λ a. a / align) (s align c refl)

pub made_same : (subs : List ℕ → List ℕ) (ats ats' : ℕ → ℕ) (ps : List Part) → ((k : ℕ) (p : Part) → slice_get ps k ≡ Some p → (align c : ℕ) → p.kind ≡ Pointer align c → ats c ≡ ats' c) → word_of_parts subs ats ps ≡ word_of_parts subs ats' ps
made_same subs ats ats' [] s = refl
made_same subs ats ats' (p ∷ ps) s =
    ap (λ w. put_into w p.o p.l (number_of subs ats p.l p.kind)) (made_same subs ats ats' ps (λ k q e. s (suc k) q e))
    ∙ ap (put_into (word_of_parts subs ats' ps) p.o p.l) (number_same subs ats ats' p.l p.kind (s 0 p refl))

pub address_is_index : (bs : List (ℕ × ℕ)) (b : ℕ) → address_at bs b ≡ slice_index (map (λ (x : ℕ × ℕ). x.0) bs) b
address_is_index [] b = refl
address_is_index (x ∷ bs) zero = refl
address_is_index (x ∷ bs) (suc b) = address_is_index bs b

pub index_before : (xs : List ℕ) (y b : ℕ) → b < length xs → slice_index (xs ++ y ∷ []) b ≡ slice_index xs b
index_before [] y b lt = absurd (omega (arith, lt))
index_before (x ∷ xs) y zero lt = refl
index_before (x ∷ xs) y (suc b) lt = index_before xs y b (omega (arith, lt))

requests_more' : (blocks : List Block) (i : ℕ) (block : Block) → slice_get blocks i ≡ Some block → map request_of (take (suc i) blocks) ≡ map request_of (take i blocks) ++ request_of block ∷ []
requests_more' [] i block is = absurd cc
requests_more' (x ∷ blocks) zero block is = ap (λ (y : Block). request_of y ∷ []) (same_Some x block is)
requests_more' (x ∷ blocks) (suc i) block is = ap (λ rs. request_of x ∷ rs) (requests_more' blocks i block is)

pub requests_more : (blocks : List Block) (i : ℕ) (block : Block) → slice_get blocks i ≡ Some block → map request_of (take (i + 1) blocks) ≡ map request_of (take i blocks) ++ request_of block ∷ []
requests_more blocks i block is = let z : suc i ≡ i + 1 = omega arith in subst (λ n. map request_of (take n blocks) ≡ map request_of (take i blocks) ++ request_of block ∷ []) z (requests_more' blocks i block is)

pub take_whole : (blocks : List Block) (i : ℕ) → length blocks ≤ i → take i blocks ≡ blocks
take_whole [] zero le = refl
take_whole [] (suc i) le = refl
take_whole (x ∷ blocks) zero le = absurd (omega (arith, le))
take_whole (x ∷ blocks) (suc i) le = ap (λ xs. x ∷ xs) (take_whole blocks i (omega (arith, le)))
