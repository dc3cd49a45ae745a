-- Every front that is read can be completed.
use Rattle.std.proofs.Common.{◌≡◌, ℕ, zero, suc, ◌+◌, ◌-◌, ◌*◌, ◌<◌, ◌≤◌, List, [], ◌∷◌, ◌++◌, length, codes, Some, refl, sym, ◌∙◌, ap, arith, append-nil, length-append}
use Rattle.rb_core.specs.Stopping.{BeginsSome}
use Rattle.rb_image_text.specs.Images.{AreBelow}
use Rattle.rb_image_text.specs.Text.{bytes_text}
use Rattle.rb_image_text.specs.Stopping.{IsImageText}
use Rattle.rb_image_text.specs.inner.Reading.{empty_at, with_byte, run}
use Rattle.rb_image_text.specs.declared.image.ImageBlock.{ImageBlock}
use Rattle.rb_image_text.specs.declared.spot.Spot.{Spot}
use Rattle.rb_image_text.specs.declared.spot.Spot.TheVariants.{Root, Prefix, Word, Line, Address, Sizing, Size, Bytes, Half}
use Rattle.rb_image_text.specs.declared.step.Reader.{Reader}
use Rattle.rb_image_text.proofs.RunLemmas.{at, follow, with_bytes, bytes_run, block_closed}
use Rattle.rb_image_text.proofs.StepLemmas.{whole, text_of, IsGoodAt, IsGood, run_fed}

-- the bytes begin the text of some image, or are the whole of one
abbrev pub IsFront : List ℕ → Type 0
IsFront bytes = BeginsSome IsImageText bytes

-- some bytes lead to the end of a text
record Ends (p : Reader) : Type 0 where
  more : List ℕ
  root : List ℕ
  blocks : List ImageBlock
  is : run (Some p) more ≡ Some (at root blocks (Line 0))

zeros : ℕ → List ℕ
zeros zero = []
zeros (suc k) = 0 ∷ zeros k

length-zeros : (k : ℕ) → length (zeros k) ≡ k
unfolding zeros
length-zeros zero = refl
length-zeros (suc k) = let e = length-zeros k in omega (arith, e)

zeros_below : (k : ℕ) → AreBelow 256 (zeros k)
unfolding zeros
zeros_below zero = tt
zeros_below (suc k) = (omega arith, zeros_below k)

module _ (root : List ℕ) (blocks : List ImageBlock) where
  root_ends : (k : ℕ) → k ≤ 4 → root ≡ [] → blocks ≡ [] → Ends (at root blocks (Root k))
  root_ends zero h r b = record { more = codes "root\n"; root = _; blocks = _; is = refl }
  root_ends (suc zero) h r b = record { more = codes "oot\n"; root = _; blocks = _; is = refl }
  root_ends (suc (suc zero)) h r b = record { more = codes "ot\n"; root = _; blocks = _; is = refl }
  root_ends (suc (suc (suc zero))) h r b = record { more = codes "t\n"; root = _; blocks = _; is = refl }
  root_ends (suc (suc (suc (suc zero)))) h r b = record { more = codes "\n"; root = _; blocks = _; is = refl }
  root_ends (suc (suc (suc (suc (suc k))))) h r b = absurd (omega (arith, h))

  prefix_ends : (k : ℕ) → k ≤ 2 → Ends (at root blocks (Prefix k))
  prefix_ends zero h = record { more = codes "0x0\n"; root = _; blocks = _; is = refl }
  prefix_ends (suc zero) h = record { more = codes "x0\n"; root = _; blocks = _; is = refl }
  prefix_ends (suc (suc zero)) h = record { more = codes "0\n"; root = _; blocks = _; is = refl }
  prefix_ends (suc (suc (suc k))) h = absurd (omega (arith, h))

  line_ends : (k : ℕ) → k ≤ 6 → Ends (at root blocks (Line k))
  line_ends zero h = record { more = codes "block 0 1 00\n"; root = _; blocks = _; is = refl }
  line_ends (suc zero) h = record { more = codes "lock 0 1 00\n"; root = _; blocks = _; is = refl }
  line_ends (suc (suc zero)) h = record { more = codes "ock 0 1 00\n"; root = _; blocks = _; is = refl }
  line_ends (suc (suc (suc zero))) h = record { more = codes "ck 0 1 00\n"; root = _; blocks = _; is = refl }
  line_ends (suc (suc (suc (suc zero)))) h = record { more = codes "k 0 1 00\n"; root = _; blocks = _; is = refl }
  line_ends (suc (suc (suc (suc (suc zero))))) h = record { more = codes " 0 1 00\n"; root = _; blocks = _; is = refl }
  line_ends (suc (suc (suc (suc (suc (suc zero)))))) h = record { more = codes "0 1 00\n"; root = _; blocks = _; is = refl }
  line_ends (suc (suc (suc (suc (suc (suc (suc k))))))) h = absurd (omega (arith, h))

  bytes_ends : (b : ImageBlock) (s : ℕ) → length b.bytes ≤ s → Ends (at root blocks (Bytes b s))
  bytes_ends b s room =
      let pad : List ℕ = zeros (s - length b.bytes) in
      let n : length pad ≡ s - length b.bytes = length-zeros (s - length b.bytes) in
      let filled : ImageBlock = with_bytes root blocks b pad in
      let full : length filled.bytes ≡ s = omega (arith, length-append b.bytes pad, n, room) in
      record {
        more = bytes_text pad ++ codes "\n";
        root = root;
        blocks = blocks ++ filled ∷ [];
        is = follow (Some (at root blocks (Bytes b s))) (Some (at root blocks (Bytes filled s))) (bytes_text pad) (codes "\n")
            (bytes_run root blocks b s pad (omega (arith, n, room)) (zeros_below (s - length b.bytes)))
            ∙ ap (λ m. run (Some (at root blocks (Bytes filled m))) (codes "\n")) (sym full) ∙ block_closed root blocks filled;
      }

  size_ends : (n s : ℕ) → Ends (at root blocks (Size n s))
  size_ends n s =
      let e = bytes_ends (empty_at n) s (omega arith) in
      record { more = 32 ∷ e.more; root = e.root; blocks = e.blocks; is = e.is }

  half_ends : (b : ImageBlock) (s u : ℕ) → length b.bytes < s → Ends (at root blocks (Half b s u))
  half_ends b s u lt =
      let e = bytes_ends (with_byte b (u * 16 + 0)) s (omega (arith, lt, length-append b.bytes ((u * 16 + 0) ∷ []))) in
      record { more = 48 ∷ e.more; root = e.root; blocks = e.blocks; is = e.is }

  good_ends : (spot : Spot) → IsGoodAt root blocks spot → Ends (at root blocks spot)
  good_ends (Root k) h = root_ends k h.0 h.1 h.2
  good_ends (Prefix k) h = prefix_ends k h.0
  good_ends (Word x) h = record { more = codes "\n"; root = _; blocks = _; is = refl }
  good_ends (Line k) h = line_ends k h
  good_ends (Address n) h = record { more = codes " 1 00\n"; root = _; blocks = _; is = refl }
  good_ends (Sizing n) h = record { more = codes "1 00\n"; root = _; blocks = _; is = refl }
  good_ends (Size n s) h = size_ends n s
  good_ends (Bytes b s) h = bytes_ends b s h.room
  good_ends (Half b s u) h = half_ends b s u h.1

pub good_front : (p : Reader) → IsGood p → IsFront (text_of p)
good_front p h =
    let e = good_ends p.root p.blocks p.spot h.spot in
    let fed = run_fed p e.more (at e.root e.blocks (Line 0)) h e.is in (
      e.more,
      (
        record { root = e.root; blocks = e.blocks },
        record {
          image = record { root = fed.good.root; blocks = fed.good.blocks };
          is = sym fed.text ∙ append-nil (whole e.root e.blocks);
        },
      ),
    )
