-- What a reading that goes on comes to, by its outcome.
use Rattle.std.proofs.Common.{◌≡◌, ◌≢◌, ◌≤◌, ◌<◌, ◌+◌, ℕ, zero, suc, List, [], ◌∷◌, ◌++◌, length, take, length-take, append-nil, arith, leb, Option, Some, Bool, true, false, IsTrue, Result, Ok, Err, sym, ap, subst, refl, ◌∙◌, if◌then◌else◌}
use Rattle.std.proofs.lemmas.Bool.{le-leb, lt-leb}
use Rattle.std.proofs.lemmas.List.{take_all, take_at}
use Rattle.std.specs.declared.vec.Vec.{Vec}
use Rattle.std.specs.declared.alloc.Global.{Global}
use Rattle.rb_edge.specs.History.{Reading, going, ended, failed, fresh_reading, longer_reading, reading_at_end, broken_reading, on_last, after_read}
use Rattle.rb_edge.specs.Source.{HoldsTheSame}
use Rattle.rb_edge.specs.Whole.{Begins, ReadsOnce, read_to}
use Rattle.rb_edge.specs.inner.Left.{ReadsOn, goes_on}
use Rattle.rb_edge.specs.declared.whole.SourceFault.{SourceFault}
use Rattle.rb_edge.specs.declared.whole.SourceFault.TheVariants.{Failed, Memory}
use Rattle.rb_edge.proofs.Histories.{on_last_snoc, on_last_twice, on_last_same, gave_none, read_more}

-- a source that holds the same as before, and then does so again
pub same_still : {S : Type 0} (tells : S → Bool) (held : S → List ℕ → Option (List ℕ)) (first before after : S) → HoldsTheSame tells held first before
    → HoldsTheSame tells held before after → HoldsTheSame tells held first after
same_still tells held first before after one two = record {
  tells_the_same = two.tells_the_same ∙ one.tells_the_same;
  holds_the_same = λ name. two.holds_the_same name ∙ one.holds_the_same name;
}

module _ {S : Type 0} (tells : S → Bool) (left : S → List ℕ) (readings : S → List Reading) (old new : S) (limit : ℕ) where
  pub stopped_by_fault : (r : Result (Vec ℕ Global) SourceFault) (f : SourceFault) → r ≡ Err f → (bytes : List ℕ) → length bytes ≤ limit + 1
      → (IsTrue (tells old) → left old ≡ bytes ++ left new) → readings new ≡ on_last (goes_on limit bytes (Err f)) (readings old)
      → ReadsOn tells left readings old new limit r
  stopped_by_fault r f is bytes within left_so on =
      subst (λ (x : Result (Vec ℕ Global) SourceFault). ReadsOn tells left readings old new limit x) (sym is)
      (record { bytes = bytes; within = within; left_so = left_so; on = on; given = tt })

  -- all that may be read was, the one more among it
  pub stopped_full : (v : Vec ℕ Global) → length v.items ≡ limit + 1 → (IsTrue (tells old) → left old ≡ v.items ++ left new)
      → readings new ≡ on_last (longer_reading v.items) (readings old) → ReadsOn tells left readings old new limit (Ok v)
  stopped_full v full left_so on =
      let over : leb (length v.items) limit ≡ false = lt-leb (length v.items) limit (omega (arith, full)) in
      let same : (r : Reading) → longer_reading v.items r ≡ goes_on limit v.items (Ok v) r =
      λ r. ap (λ (b : Bool). if b then reading_at_end (longer_reading v.items r) else longer_reading v.items r) (sym over) in
      record {
        bytes = v.items;
        within = omega (arith, full);
        left_so = left_so;
        on = on ∙ on_last_same (longer_reading v.items) (goes_on limit v.items (Ok v)) same (readings old);
        given = refl {A = List ℕ};
      }

module _ (limit : ℕ) (bytes : List ℕ) (first before after : List Reading) (so_far : before ≡ on_last (longer_reading bytes) first) where
  -- and then a read that failed
  pub then_broken : after ≡ on_last broken_reading before → after ≡ on_last (goes_on limit bytes (Err Failed)) first
  then_broken is = is ∙ ap (λ (rs : List Reading). on_last broken_reading rs) so_far ∙ on_last_twice (longer_reading bytes) broken_reading (goes_on limit bytes (Err Failed)) (λ r. refl) first

  -- and then a read that gave some
  pub then_more : (room : ℕ) (more : List ℕ) → after ≡ on_last (after_read room more) before → length more ≢ 0 → after ≡ on_last (longer_reading (bytes ++ more)) first
  then_more room more is some = is ∙ ap (λ (rs : List Reading). on_last (after_read room more) rs) so_far ∙ read_more bytes more room first some

  told_by : (v : Vec ℕ Global) (r : Reading) → length bytes ≤ limit → reading_at_end (longer_reading bytes r) ≡ goes_on limit bytes (Ok v) r
  told_by v r short = ap (λ (b : Bool). if b then reading_at_end (longer_reading bytes r) else longer_reading bytes r) (sym (le-leb (length bytes) limit short))

  -- and then a read that gave none where there was room
  pub then_ended : (v : Vec ℕ Global) (room n : ℕ) (buffer : List ℕ) → after ≡ on_last (after_read room (take n buffer)) before → n ≡ 0
      → length bytes ≤ limit → 0 < room → after ≡ on_last (goes_on limit bytes (Ok v)) first
  then_ended v room n buffer is none short roomy =
      is ∙ ap (λ (k : ℕ). on_last (after_read room (take k buffer)) before) none ∙ ap (λ (rs : List Reading). on_last (after_read room []) rs) so_far
      ∙ on_last_same (after_read room []) reading_at_end (λ r. gave_none room r roomy) (on_last (longer_reading bytes) first)
      ∙ on_last_twice (longer_reading bytes) reading_at_end (goes_on limit bytes (Ok v)) (λ r. told_by v r short) first

-- a read that gave a byte
pub some_taken : (n : ℕ) (buffer : List ℕ) → n ≢ 0 → n ≤ length buffer → length (take n buffer) ≢ 0
some_taken n buffer some within e = let cut = length-take n buffer in some (omega (arith, e, cut, within))

take_front : (n : ℕ) (xs ys : List ℕ) → n ≤ length xs → take n (xs ++ ys) ≡ take n xs
take_front zero xs ys within = refl
take_front (suc n) [] ys within = absurd (omega (arith, within))
take_front (suc n) (x ∷ xs) ys within = ap (λ (zs : List ℕ). x ∷ zs) (take_front n xs ys (omega (arith, within)))

-- the front of what was read, with more behind it, was added to bytes
pub front_added : (n : ℕ) (all bytes xs ys : List ℕ) → all ≡ bytes ++ take n (xs ++ ys) → n ≤ length xs → all ≡ bytes ++ take n xs
front_added n all bytes xs ys is within = is ∙ ap (λ (zs : List ℕ). bytes ++ zs) (take_front n xs ys within)

-- as many of the bytes of a whole as were wanted, with more behind them
pub front_full : (count : ℕ) (whole bytes rest : List ℕ) → whole ≡ bytes ++ rest → length bytes ≡ count → bytes ≡ take count whole
front_full count whole bytes rest is full = sym (ap (λ (xs : List ℕ). take count xs) is ∙ take_at bytes rest count full)

-- all the bytes of a whole, no more than were wanted
pub front_whole : (count : ℕ) (whole bytes rest : List ℕ) → whole ≡ bytes ++ rest → rest ≡ [] → length bytes ≤ count → bytes ≡ take count whole
front_whole count whole bytes rest is none within =
    sym (ap (λ (xs : List ℕ). take count xs) (is ∙ ap (λ (xs : List ℕ). bytes ++ xs) none ∙ append-nil bytes) ∙ take_all count bytes within)

-- A file that is opened and then read -------------------------------------------------------

made : (name bytes : List ℕ) (b : Bool) → (if b then reading_at_end (longer_reading bytes (fresh_reading name)) else longer_reading bytes (fresh_reading name))
    ≡ record { name = name; bytes = bytes; course = if b then ended else going }
made name bytes true = refl
made name bytes false = refl

module _ {S : Type 0} (tells : S → Bool) (held : S → List ℕ → Option (List ℕ)) (left : S → List ℕ) (readings : S → List Reading) (old mid new : S)
    (name : List ℕ) (limit : ℕ) (opened : readings mid ≡ readings old ++ fresh_reading name ∷ []) (same : tells mid ≡ tells old)
    (is_held : IsTrue (tells old) → held old name ≡ Some (left mid)) where
  came : (r : Result (Vec ℕ Global) SourceFault) (on : ReadsOn tells left readings mid new limit r) → readings new ≡ readings old ++ goes_on limit on.bytes r (fresh_reading name) ∷ []
  came r on = on.on ∙ ap (λ (rs : List Reading). on_last (goes_on limit on.bytes r) rs) opened ∙ on_last_snoc (goes_on limit on.bytes r) (readings old) (fresh_reading name)

  front : (r : Result (Vec ℕ Global) SourceFault) (on : ReadsOn tells left readings mid new limit r) → IsTrue (tells old) → Begins (held old name) on.bytes
  front r on t = subst (λ (o : Option (List ℕ)). Begins o on.bytes) (sym (is_held t)) (left new, on.left_so (subst (λ (b : Bool). IsTrue b) (sym same) t))

  pub once_ok : (v : Vec ℕ Global) → ReadsOn tells left readings mid new limit (Ok v) → ReadsOnce tells held readings old new name limit (Ok v.items)
  once_ok v on = record {
    reading = read_to limit name on.bytes;
    one_more = came (Ok v) on ∙ ap (λ (r : Reading). readings old ++ r ∷ []) (made name on.bytes (leb (length on.bytes) limit));
    named = refl;
    within = on.within;
    held_so = front (Ok v) on;
    given = ap (λ (xs : List ℕ). read_to limit name xs) (sym on.given);
    stopped = tt;
  }

  pub once_err : (f : SourceFault) → ReadsOn tells left readings mid new limit (Err f) → ReadsOnce tells held readings old new name limit (Err f)
  once_err Failed on = record {
    reading = record { name = name; bytes = on.bytes; course = failed };
    one_more = came (Err Failed) on;
    named = refl;
    within = on.within;
    held_so = front (Err Failed) on;
    given = tt;
    stopped = refl;
  }
  once_err Memory on = record {
    reading = record { name = name; bytes = on.bytes; course = going };
    one_more = came (Err Memory) on;
    named = refl;
    within = on.within;
    held_so = front (Err Memory) on;
    given = tt;
    stopped = refl;
  }
