-- Where reading stops, no text of an image goes on.
use Rattle.std.proofs.Common.{◌≡◌, ℕ, zero, suc, ◌+◌, ◌<◌, ◌≤◌, List, [], ◌∷◌, ◌++◌, length, take, drop, get_or, nat_lt, Bool, true, false, Some, None, refl, sym, ◌∙◌, ap, subst, arith, append-nil}
use Rattle.std.proofs.lemmas.Grind.{common_steps}
use Rattle.std.proofs.lemmas.List.{take_more, take_all, take-append-drop}
use Rattle.rb_image_text.specs.Stopping.{IsTextOf, IsImageText, StopsAt}
use Rattle.rb_image_text.specs.inner.Reading.{IsHalved, start, feed, run, is_done, image_of}
use Rattle.rb_image_text.specs.declared.image.ImageBlock.{ImageBlock}
use Rattle.rb_image_text.specs.declared.image.Image.{Image}
use Rattle.rb_image_text.specs.declared.spot.Spot.{Spot}
use Rattle.rb_image_text.specs.declared.spot.Spot.TheVariants.{Root, Prefix, Word, Line, Address, Sizing, Size, Bytes, Half}
use Rattle.rb_image_text.specs.declared.step.Reader.{Reader}
use Rattle.rb_image_text.proofs.RunLemmas.{run_none, run_append, done, reads_image}
use Rattle.rb_image_text.proofs.StepLemmas.{whole, text_of, IsGoodAt, Fed, run_fed}
use Rattle.rb_image_text.proofs.GoLemmas.{IsFront, good_front}

same_reader : (p q : Reader) → Some p ≡ Some q → p ≡ q
same_reader p q e = cc

read_fed : (bytes : List ℕ) (p : Reader) → run (Some start) bytes ≡ Some p → Fed bytes p
read_fed bytes p e = run_fed start bytes p (record { root = tt; blocks = tt; spot = (omega arith, refl, refl) }) e

halved_at : (root : List ℕ) (blocks : List ImageBlock) (spot : Spot) → IsGoodAt root blocks spot → IsHalved spot
halved_at root blocks (Half b s u) h = h.2
halved_at root blocks (Root k) h = tt
halved_at root blocks (Prefix k) h = tt
halved_at root blocks (Word x) h = tt
halved_at root blocks (Line k) h = tt
halved_at root blocks (Address n) h = tt
halved_at root blocks (Sizing n) h = tt
halved_at root blocks (Size n s) h = tt
halved_at root blocks (Bytes b s) h = tt

-- what is read can be read on
pub read_halved : (bytes : List ℕ) (p : Reader) → run (Some start) bytes ≡ Some p → IsHalved p.spot
read_halved bytes p e = halved_at p.root p.blocks p.spot (read_fed bytes p e).good.spot

read_front : (bytes : List ℕ) (p : Reader) → run (Some start) bytes ≡ Some p → IsFront bytes
read_front bytes p e = let fed = read_fed bytes p e in subst IsFront fed.text (good_front p fed.good)

done_text : (p : Reader) → is_done p.spot ≡ true → text_of p ≡ whole p.root p.blocks
done_text p e = at_spot p.root p.blocks p.spot e
  where
    at_spot : (root : List ℕ) (blocks : List ImageBlock) (spot : Spot) → is_done spot ≡ true → text_of (record { root = root; blocks = blocks; spot = spot }) ≡ whole root blocks
    at_spot root blocks (Line zero) h = append-nil (whole root blocks)
    at_spot root blocks (Line (suc k)) h = absurd (grind (arith, common_steps))
    at_spot root blocks (Root k) h = absurd (cc h)
    at_spot root blocks (Prefix k) h = absurd (cc h)
    at_spot root blocks (Word x) h = absurd (cc h)
    at_spot root blocks (Address n) h = absurd (cc h)
    at_spot root blocks (Sizing n) h = absurd (cc h)
    at_spot root blocks (Size n s) h = absurd (cc h)
    at_spot root blocks (Bytes b s) h = absurd (cc h)
    at_spot root blocks (Half b s u) h = absurd (cc h)

-- a whole text is that of what was read
pub read_text : (bytes : List ℕ) (p : Reader) → run (Some start) bytes ≡ Some p → is_done p.spot ≡ true → IsTextOf bytes (image_of p)
read_text bytes p e d =
    let fed = read_fed bytes p e in
    record { image = record { root = fed.good.root; blocks = fed.good.blocks }; is = sym fed.text ∙ done_text p d }

-- a text is read to its end
pub whole_only : (bytes : List ℕ) (p : Reader) (i : Image) → run (Some start) bytes ≡ Some p → IsTextOf bytes i → done i ≡ p
whole_only bytes p i e text = same_reader (done i) p (sym (ap (run (Some start)) text.is ∙ reads_image i text.image) ∙ e)

text_done : (bytes : List ℕ) (p : Reader) → run (Some start) bytes ≡ Some p → IsImageText bytes → is_done p.spot ≡ true
text_done bytes p e text = subst (λ (q : Reader). is_done q.spot ≡ true) (whole_only bytes p text.0 e text.1) refl

-- bytes that are all read, and no whole text
pub stops_at_end : (bytes : List ℕ) (p : Reader) → run (Some start) bytes ≡ Some p → is_done p.spot ≡ false → StopsAt bytes (length bytes)
stops_at_end bytes p e open_end = record {
  within = omega arith;
  before = subst IsFront (sym (take_all (length bytes) bytes (omega arith))) (read_front bytes p e);
  here = λ lt front. absurd (omega (arith, lt));
  at_end = λ at text. absurd (cc (sym open_end ∙ text_done bytes p e text));
}

-- a byte that is refused
pub stops_here : (bytes : List ℕ) (at : ℕ) (p : Reader) → at < length bytes → run (Some start) (take at bytes) ≡ Some p → feed p (get_or bytes at 0) ≡ None → StopsAt bytes at
stops_here bytes at p lt e refused =
    let b : ℕ = get_or bytes at 0 in
    let next : take (suc at) bytes ≡ take at bytes ++ b ∷ [] = ap (λ n. take n bytes) (let z : suc at ≡ at + 1 = omega arith in z) ∙ take_more bytes at 0 lt in
    let none : run (Some start) (take (suc at) bytes) ≡ None = ap (run (Some start)) next ∙ run_append (Some start) (take at bytes) (b ∷ []) ∙ ap (λ o. run o (b ∷ [])) e ∙ refused in
    record {
      within = omega (arith, lt);
      before = read_front (take at bytes) p e;
      here = λ _ front.
          let text = front.1 in
          let read : run (Some start) (take (suc at) bytes ++ front.0) ≡ Some (done text.0) = ap (run (Some start)) text.1.is ∙ reads_image text.0 text.1.image in
          absurd (cc (sym read ∙ run_append (Some start) (take (suc at) bytes) front.0 ∙ ap (λ o. run o front.0) none ∙ run_none front.0));
      at_end = λ is text. absurd (omega (arith, lt, is));
    }

-- a byte that is read
pub one_more : (bytes : List ℕ) (at : ℕ) (p q : Reader) → at < length bytes → run (Some start) (take at bytes) ≡ Some p → feed p (get_or bytes at 0) ≡ Some q → run (Some start) (take (at + 1) bytes) ≡ Some q
one_more bytes at p q lt e fed =
    let b : ℕ = get_or bytes at 0 in
    ap (run (Some start)) (take_more bytes at 0 lt) ∙ run_append (Some start) (take at bytes) (b ∷ []) ∙ ap (λ o. run o (b ∷ [])) e ∙ fed

-- where reading stops there is no whole text
pub none_whole : (bytes : List ℕ) (at : ℕ) (i : Image) → StopsAt bytes at → IsTextOf bytes i → ⊥
none_whole bytes at i stops text = elim (nat_lt at (length bytes)) as (λ (b : Bool). nat_lt at (length bytes) ≡ b → ⊥) [
  | true ↦ λ e.
      let lt : at < length bytes = grind (arith, common_steps) in
      stops.here lt (drop (suc at) bytes, (i, subst (λ t. IsTextOf t i) (sym (take-append-drop (suc at) bytes)) text))
  | false ↦ λ e. stops.at_end (let le : length bytes ≤ at = grind (arith, common_steps) in omega (arith, le, stops.within)) (i, text)
] refl
