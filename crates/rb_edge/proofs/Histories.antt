-- Readings that go on, and logs that keep them.
use Rattle.std.proofs.Common.{◌≡◌, ◌≢◌, ◌<◌, ℕ, nat_lt, ◌&&◌, List, [], ◌∷◌, ◌++◌, length, refl, sym, ap, ◌∙◌, append_assoc, append-nil, Bool, if◌then◌else◌}
use Rattle.std.proofs.lemmas.Bool.{ne_eqb, lt-ltb}
use Rattle.rb_edge.specs.History.{Reading, Account, longer_reading, reading_at_end, on_last, after_read, after_take}
use Rattle.rb_edge.specs.inner.Events.{reading_event, readings_after, account_event, account_after}

-- Logs --------------------------------------------------------------------------------------

pub readings_snoc : (rs : List Reading) (es : List (ℕ × List ℕ)) (e : ℕ × List ℕ) → readings_after rs (es ++ e ∷ []) ≡ reading_event (readings_after rs es) e
readings_snoc rs [] e = refl
readings_snoc rs (d ∷ es) e = readings_snoc (reading_event rs d) es e

pub account_snoc : (a : Account) (es : List (ℕ × List ℕ)) (e : ℕ × List ℕ) → account_after a (es ++ e ∷ []) ≡ account_event (account_after a es) e
account_snoc a [] e = refl
account_snoc a (d ∷ es) e = account_snoc (account_event a d) es e

-- The last reading --------------------------------------------------------------------------

-- of a list that ends in it
pub on_last_snoc : (more : Reading → Reading) (rs : List Reading) (r : Reading) → on_last more (rs ++ r ∷ []) ≡ rs ++ more r ∷ []
on_last_snoc more [] r = refl
on_last_snoc more (q ∷ []) r = refl
on_last_snoc more (q ∷ p ∷ rs) r = ap (λ (xs : List Reading). q ∷ xs) (on_last_snoc more (p ∷ rs) r)

-- twice
pub on_last_twice : (more again both : Reading → Reading) → ((r : Reading) → again (more r) ≡ both r) → (rs : List Reading)
    → on_last again (on_last more rs) ≡ on_last both rs
on_last_twice more again both e [] = refl
on_last_twice more again both e (r ∷ []) = ap (λ (q : Reading). q ∷ []) (e r)
on_last_twice more again both e (r ∷ s ∷ []) = ap (λ (q : Reading). r ∷ q ∷ []) (e s)
on_last_twice more again both e (r ∷ s ∷ t ∷ rs) = ap (λ (xs : List Reading). r ∷ xs) (on_last_twice more again both e (s ∷ t ∷ rs))

-- by what does the same
pub on_last_same : (more other : Reading → Reading) → ((r : Reading) → more r ≡ other r) → (rs : List Reading) → on_last more rs ≡ on_last other rs
on_last_same more other e [] = refl
on_last_same more other e (r ∷ []) = ap (λ (q : Reading). q ∷ []) (e r)
on_last_same more other e (r ∷ s ∷ rs) = ap (λ (xs : List Reading). r ∷ xs) (on_last_same more other e (s ∷ rs))

pub on_last_id : (more : Reading → Reading) → ((r : Reading) → more r ≡ r) → (rs : List Reading) → rs ≡ on_last more rs
on_last_id more e [] = refl
on_last_id more e (r ∷ []) = ap (λ (q : Reading). q ∷ []) (sym (e r))
on_last_id more e (r ∷ s ∷ rs) = ap (λ (xs : List Reading). r ∷ xs) (on_last_id more e (s ∷ rs))

pub handed_none : (r : Reading) → longer_reading [] r ≡ r
handed_none r = ap (λ (bytes : List ℕ). record r { bytes = bytes }) (append-nil r.bytes)

pub handed_twice : (a b : List ℕ) (r : Reading) → longer_reading b (longer_reading a r) ≡ longer_reading (a ++ b) r
handed_twice a b r = ap (λ (bytes : List ℕ). record r { bytes = bytes }) (append_assoc r.bytes a b)

-- a read that gave some bytes
pub gave_some : (room : ℕ) (bytes : List ℕ) (r : Reading) → length bytes ≢ 0 → after_read room bytes r ≡ longer_reading bytes r
gave_some room bytes r some = ap (λ (none : Bool). if none && nat_lt 0 room then reading_at_end r else longer_reading bytes r) (ne_eqb (length bytes) 0 some)

-- a read that gave none, where there was room
pub gave_none : (room : ℕ) (r : Reading) → 0 < room → after_read room [] r ≡ reading_at_end r
gave_none room r some = ap (λ (roomy : Bool). if roomy then reading_at_end r else longer_reading [] r) (lt-ltb 0 room some)

-- bytes that were handed out, and then more by a read
pub read_more : (a b : List ℕ) (room : ℕ) (rs : List Reading) → length b ≢ 0 → on_last (after_read room b) (on_last (longer_reading a) rs) ≡ on_last (longer_reading (a ++ b)) rs
read_more a b room rs some =
    on_last_twice (longer_reading a) (after_read room b) (longer_reading (a ++ b)) (λ r. gave_some room b (longer_reading a r) some ∙ handed_twice a b r) rs

-- Accounts ----------------------------------------------------------------------------------

pub took_twice : (x y : List ℕ) (a : Account) → after_take y (after_take x a) ≡ after_take (x ++ y) a
took_twice x y a = ap (λ (said : List ℕ). record a { said = said }) (append_assoc a.said x y)

pub took_none : (a : Account) → a ≡ after_take [] a
took_none a = ap (λ (said : List ℕ). record a { said = said }) (sym (append-nil a.said))
