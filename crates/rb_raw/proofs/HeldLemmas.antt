-- One more byte written, and bytes read.
use Rattle.std.proofs.Common.{◌≡◌, ◌≢◌, ℕ, zero, suc, ◌+◌, ◌<◌, inl, inr, true, false, List, [], ◌∷◌, length, get_or, set, replicate, Option, Some, None, Result, Ok, Err, refl, sym, subst, ap, ◌∙◌, arith, length-set}
use Rattle.std.specs.Prelude.{slice_get, IsSome, IsOk}
use Rattle.std.proofs.lemmas.List.{get_or-set_same, get_or-set_other}
use Rattle.std.proofs.lemmas.Bool.Decides.{eqb_tells}
use Rattle.core.specs.Mem.Slots.{slots_items, slots_filled, slots_len, slots_ptr, lease_ptr, lease_len, lease_heap}
use Rattle.rb_bytes.specs.Memory.{byte_at, read_le, then_byte}
use Rattle.rb_bytes.specs.declared.fault.Trap.{Trap}
use Rattle.rb_bytes.proofs.ByteLemmas.{byte_at-set_same, byte_at-set_other}
use Rattle.rb_raw.specs.inner.Held.{IsHeld}
use Rattle.rb_raw.specs.declared.bytes.RawBytes.TheInside.{Inside}

module _ {A : Type 0} where
  pub get_set_same : (xs : List A) (i : ℕ) (x : A) → i < length xs → slice_get (set xs i x) i ≡ Some x
  get_set_same [] i x lt = absurd (omega arith)
  get_set_same (y ∷ xs) zero x lt = refl
  get_set_same (y ∷ xs) (suc i) x lt = get_set_same xs i x (omega arith)

  pub get_set_other : (xs : List A) (i a : ℕ) (x : A) → a ≢ i → slice_get (set xs i x) a ≡ slice_get xs a
  get_set_other [] i a x ne = refl
  get_set_other (y ∷ xs) zero zero x ne = absurd (ne refl)
  get_set_other (y ∷ xs) zero (suc a) x ne = refl
  get_set_other (y ∷ xs) (suc i) zero x ne = refl
  get_set_other (y ∷ xs) (suc i) (suc a) x ne = get_set_other xs i a x (λ e. ne (ap suc e))

pub none_at : (n a : ℕ) → byte_at (replicate n None) a ≡ None
none_at zero a = refl
none_at (suc n) zero = refl
none_at (suc n) (suc a) = none_at n a

pub write_held : (r r' : Inside) (held : IsHeld r) (at byte : ℕ) → at < length r.written.bytes → length (slots_items r.places) ≡ length r.written.bytes → length (slots_filled r.places) ≡ length r.written.bytes
    → r'.written.bytes ≡ set r.written.bytes at (Some byte) → slots_items r'.places ≡ set (slots_items r.places) at byte → slots_filled r'.places ≡ set (slots_filled r.places) at true
    → slots_ptr r'.places ≡ slots_ptr r.places → slots_len r'.places ≡ slots_len r.places → lease_ptr r'.lease ≡ lease_ptr r.lease → lease_len r'.lease ≡ lease_len r.lease → lease_heap r'.lease ≡ lease_heap r.lease → r'.alloc ≡ r.alloc
    → IsHeld r'
write_held r r' held at byte lt items_long filled_long bytes items filled ptr len lptr llen heap alloc = record {
  leased = (lptr ∙ held.leased.0 ∙ sym ptr, llen ∙ held.leased.1 ∙ sym len, heap ∙ held.leased.2 ∙ sym alloc);
  long = len ∙ held.long ∙ sym (ap length bytes ∙ length-set r.written.bytes at (Some byte));
  filled = λ a b is. ap (λ xs. get_or xs a false) filled ∙ elim (eqb_tells a at) [
    | inl h ↦ ap (λ k. get_or (set (slots_filled r.places) at true) k false) h.1 ∙ get_or-set_same (slots_filled r.places) at true false (omega arith)
    | inr h ↦ get_or-set_other (slots_filled r.places) at a true false h.1 ∙ held.filled a b (sym (byte_at-set_other r.written.bytes at a (Some byte) h.1) ∙ ap (λ bs. byte_at bs a) (sym bytes) ∙ is)
  ];
  holds = λ a b is. ap (λ xs. slice_get xs a) items ∙ elim (eqb_tells a at) [
    | inl h ↦
        let both : Some byte ≡ Some b = sym (byte_at-set_same r.written.bytes at byte lt) ∙ ap (byte_at (set r.written.bytes at (Some byte))) (sym h.1) ∙ ap (λ bs. byte_at bs a) (sym bytes) ∙ is in
        ap (slice_get (set (slots_items r.places) at byte)) h.1 ∙ get_set_same (slots_items r.places) at byte (omega arith) ∙ both
    | inr h ↦ get_set_other (slots_items r.places) at a byte h.1 ∙ held.holds a b (sym (byte_at-set_other r.written.bytes at a (Some byte) h.1) ∙ ap (λ bs. byte_at bs a) (sym bytes) ∙ is)
  ];
}

then_byte_written : (at : ℕ) (o : Option ℕ) (rest : Result ℕ Trap) → IsOk (then_byte at o rest) → IsSome o × IsOk rest
then_byte_written at None rest ok = cc
then_byte_written at (Some b) (Err trap) ok = cc
then_byte_written at (Some b) (Ok r) ok = (refl, refl)

-- each byte of a word that can be read was written
pub read_written : (bytes : List (Option ℕ)) (n at i : ℕ) → IsOk (read_le bytes n at) → i < n → IsSome (byte_at bytes (at + i))
read_written bytes zero at i ok lt = absurd (omega arith)
read_written bytes (suc n) at zero ok lt =
    let e : at ≡ at + 0 = omega arith in
    subst (λ k. IsSome (byte_at bytes k)) e (then_byte_written at (byte_at bytes at) (read_le bytes n (at + 1)) ok).0
read_written bytes (suc n) at (suc i) ok lt =
    let e : at + 1 + i ≡ at + suc i = omega arith in
    subst (λ k. IsSome (byte_at bytes k)) e (read_written bytes n (at + 1) i (then_byte_written at (byte_at bytes at) (read_le bytes n (at + 1)) ok).1 (omega arith))
