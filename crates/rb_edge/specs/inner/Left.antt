-- Reading what is left of an opened file, up to a limit of bytes and one more.
use Rattle.std.specs.Prelude.{◌≡◌, ◌≤◌, ◌+◌, leb, ℕ, List, ◌++◌, length, Bool, IsTrue, Result, Ok, Err, IfOk, if◌then◌else◌}
use Rattle.std.specs.declared.vec.Vec.{Vec}
use Rattle.std.specs.declared.alloc.Global.{Global}
use Rattle.rb_edge.specs.History.{Reading, longer_reading, reading_at_end, broken_reading, on_last}
use Rattle.rb_edge.specs.declared.whole.SourceFault.{SourceFault}
use Rattle.rb_edge.specs.declared.whole.SourceFault.TheVariants.{Failed, Memory}

-- The file's reading after these bytes more were handed out, by the answer: with bytes, its end was told where they
-- are within the limit; after a failure of the source a read of it failed; for want of memory it is left as it is.
abbrev pub goes_on : ℕ → List ℕ → Result (Vec ℕ Global) SourceFault → Reading → Reading
goes_on limit bytes (Ok _) r =
    if leb (length bytes) limit then reading_at_end (longer_reading bytes r) else longer_reading bytes r
goes_on limit bytes (Err Failed) r = broken_reading (longer_reading bytes r)
goes_on limit bytes (Err Memory) r = longer_reading bytes r

-- Between the sources `old` and `new`, of any type S, some bytes more of the opened file were handed out, at most one
-- over the limit. `tells` says whether a source tells its bytes, `left` which are left of the opened file, `readings`
-- what it handed out. The answer has just these bytes, or says why there is none.
pub record ReadsOn {S : Type 0} (tells : S → Bool) (left : S → List ℕ) (readings : S → List Reading) (old new : S)
    (limit : ℕ) (result : Result (Vec ℕ Global) SourceFault) : Type 0 where
  pub bytes : List ℕ
  pub within : length bytes ≤ limit + 1
  pub left_so : IsTrue (tells old) → left old ≡ bytes ++ left new
  pub on : readings new ≡ on_last (goes_on limit bytes result) (readings old)
  pub given : IfOk result (λ answer. answer.items ≡ bytes)
