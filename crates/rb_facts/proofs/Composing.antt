-- Pieces of code that come to their end, one behind the other.
use Rattle.std.proofs.Common.{ℕ, ◌+◌, ◌≤◌, inl, List, arith}
use Rattle.rb_bytes.specs.Memory.{Memory}
use Rattle.rb_target.specs.Growth.{Keeps, Nowhere}
use Rattle.rb_target.specs.Sheet.{Sheet}
use Rattle.rb_fragment.specs.Plan.{Plan}
use Rattle.rb_fragment.specs.Pieces.{AtEnd, CodePiece}
use Rattle.rb_fragment.proofs.Pieces.{piece_frame, piece_seq, piece_weaken}

module _ (plan : Plan) where
  -- with their switches together
  pub pieces : (n : ℕ) (a b c : Sheet) (k j : ℕ) (Pre Mid Post : List ℕ → Memory → Type 0) → CodePiece plan n a b Nowhere k Pre (AtEnd b Mid) → CodePiece plan n b c Nowhere j Mid (AtEnd c Post) → CodePiece plan n a c Nowhere (k + j) Pre (AtEnd c Post)
  pieces n a b c k j Pre Mid Post first second =
      let p = piece_seq plan n a b c Nowhere Nowhere k j Pre Mid (AtEnd b Mid) (AtEnd c Post) first second (λ pc x. absurd x) (λ pc x. absurd x) (λ pc s m x. inl x) in
      record {
        adds = p.adds;
        low = p.low;
        runs = λ final callee next law agrees s w long pre. p.runs final callee next law (record { same = λ pc lo hi out. agrees.same pc lo hi (λ x. x) }) s w long pre;
      }

  -- fewer slots kept, more switches, more known before and less after
  pub piece_less : (n n' : ℕ) (a b : Sheet) (k k' : ℕ) (Pre Pre' Post Post' : List ℕ → Memory → Type 0) → n' ≤ n → k ≤ k' → ((s : List ℕ) (m : Memory) → Pre' s m → Pre s m) → ((s : List ℕ) (m : Memory) → Post s m → Post' s m)
      → CodePiece plan n a b Nowhere k Pre (AtEnd b Post) → CodePiece plan n' a b Nowhere k' Pre' (AtEnd b Post')
  piece_less n n' a b k k' Pre Pre' Post Post' fewer more f g p = piece_weaken plan n n' a b Nowhere k k' Pre Pre' (AtEnd b Post) (AtEnd b Post') fewer more f (λ pc s m x. (x.0, g s m x.1)) p

  -- what is said of kept slots stays
  pub piece_framed : (n : ℕ) (a b : Sheet) (k : ℕ) (F Pre Post : List ℕ → Memory → Type 0) → ((s s' : List ℕ) (m : Memory) → Keeps n s s' → F s m → F s' m) → CodePiece plan n a b Nowhere k Pre (AtEnd b Post)
      → CodePiece plan n a b Nowhere k (λ s m. F s m × Pre s m) (AtEnd b (λ s m. F s m × Post s m))
  piece_framed n a b k F Pre Post stays p =
      piece_weaken plan n n a b Nowhere k k (λ s m. F s m × Pre s m) (λ s m. F s m × Pre s m) (λ pc s m. F s m × AtEnd b Post pc s m) (AtEnd b (λ s m. F s m × Post s m)) (omega arith) (omega arith) (λ s m x. x) (λ pc s m x. (x.1.0, (x.0, x.1.1)))
      (piece_frame plan n a b Nowhere k F Pre (AtEnd b Post) stays p)
