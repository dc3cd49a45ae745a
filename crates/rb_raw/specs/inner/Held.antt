-- What raw bytes hold: places for bytes, each written or not, and the right to free them.
use Rattle.std.specs.Prelude.{◌≡◌, ℕ, List, length, Option, Some, false, IsTrue, slice_get, slice_index_or}
use Rattle.core.specs.Mem.Slots.{slots_items, slots_filled, slots_len, slots_ptr, lease_ptr, lease_len, lease_heap}
use Rattle.rb_bytes.specs.Memory.{byte_at}
use Rattle.rb_raw.specs.declared.bytes.RawBytes.TheInside.{Inside}

-- by address, the byte that was written to raw bytes there, or None; only contracts see this list
abbrev pub bytes_of : Inside → List (Option ℕ)
bytes_of r = r.written.bytes

-- what holds of raw bytes: each byte that was written stands in its place, and the lease is the
-- right to free the places
pub record IsHeld (r : Inside) : Type 0 where
  pub leased : (lease_ptr r.lease ≡ slots_ptr r.places) × (lease_len r.lease ≡ slots_len r.places)
      × (lease_heap r.lease ≡ r.alloc)
  pub long : slots_len r.places ≡ length r.written.bytes
  pub filled : (a b : ℕ) → byte_at r.written.bytes a ≡ Some b → IsTrue (slice_index_or (slots_filled r.places) a false)
  pub holds : (a b : ℕ) → byte_at r.written.bytes a ≡ Some b → slice_get (slots_items r.places) a ≡ Some b
