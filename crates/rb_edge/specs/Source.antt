-- What sources do, for a source of any type S. `tells` says whether the source tells its bytes; `held` gives the
-- bytes that it holds under a name, or None; `faults` is its count of faults. `old` is a source before a call, `new`
-- after it.
use Rattle.std.specs.Prelude.{◌≡◌, ◌<◌, ◌↔◌, ℕ, List, [], ◌++◌, ◌⊎◌, length, take, Bool, IsTrue, Option, None}
use Rattle.rb_edge.specs.Faults.{Rose}

-- the source tells its bytes just where it did before, and holds the same under each name
pub record HoldsTheSame {S : Type 0} (tells : S → Bool) (held : S → List ℕ → Option (List ℕ)) (old new : S) : Type 0
  where
    pub tells_the_same : tells new ≡ tells old
    pub holds_the_same : (name : List ℕ) → held new name ≡ held old name

-- A read gave n bytes: these, the first of the buffer, are the first of the bytes that were left before, `old`, and
-- `new` are those that are left after it. Where the buffer has room, n is 0 just where none was left.
pub record GivesBytes (n : ℕ) (buffer old new : List ℕ) : Type 0 where
  pub bytes : old ≡ take n buffer ++ new
  pub at_end : 0 < length buffer → (n ≡ 0) ↔ (old ≡ [])

-- why opening a name failed: the count of faults rose, or stood at the greatest already, or the source tells its
-- bytes and holds none under the name
abbrev pub FailsToOpen : {S : Type 0} → (S → Bool) → (S → List ℕ → Option (List ℕ)) → (S → ℕ) → S → S → List ℕ
    → Type 0
FailsToOpen tells held faults old new name =
    Rose (faults old) (faults new) ⊎ (IsTrue (tells old) × (held old name ≡ None))
