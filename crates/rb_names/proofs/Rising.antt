-- Numbers of places that rise along a file.
use Rattle.std.proofs.Common.{◌≡◌, ℕ, suc, ◌-◌, ◌<◌, ◌≤◌, List, [], ◌∷◌, ◌++◌, length, true, false, nat_eq, refl, arith}
use Rattle.std.proofs.lemmas.Grind.{common_steps}
use Rattle.std.specs.List.{list_any}
use Rattle.rb_syntax.specs.Written.{Written, tokens_in, HaveNoFlaw, AreNumbered}
use Rattle.rb_core.specs.WellNumbered.{is_distinct}

-- each is greater than the one before it, from lo on and below hi
abbrev pub Rise : ℕ → ℕ → List ℕ → Type 0
Rise lo hi [] = lo ≤ hi
Rise lo hi (m ∷ ms) = (lo ≤ m) × Rise (suc m) hi ms

pub rise-wider : (lo lo' hi hi' : ℕ) (ms : List ℕ) → lo' ≤ lo → hi ≤ hi' → Rise lo hi ms → Rise lo' hi' ms
rise-wider lo lo' hi hi' [] l h r = omega (arith, l, h, r)
rise-wider lo lo' hi hi' (m ∷ ms) l h r = (omega (arith, l, r.0), rise-wider (suc m) (suc m) hi hi' ms (omega arith) h r.1)

pub rise-append : (lo mid hi : ℕ) (ms ns : List ℕ) → Rise lo mid ms → Rise mid hi ns → Rise lo hi (ms ++ ns)
rise-append lo mid hi [] ns r s = rise-wider mid lo hi hi ns r (omega arith) s
rise-append lo mid hi (m ∷ ms) ns r s = (r.0, rise-append (suc m) mid hi ms ns r.1 s)

absent : (m lo hi : ℕ) (ms : List ℕ) → m < lo → Rise lo hi ms → list_any (nat_eq m) ms ≡ false
absent m lo hi [] l r = refl
absent m lo hi (n ∷ ns) l r =
    let d : nat_eq m n ≡ false = grind (arith, common_steps, l, r.0) in
    rw d (absent m (suc n) hi ns (omega (arith, l, r.0)) r.1)

-- so no two are equal
pub rise-distinct : (lo hi : ℕ) (ms : List ℕ) → Rise lo hi ms → is_distinct nat_eq ms ≡ true
rise-distinct lo hi [] r = refl
rise-distinct lo hi (m ∷ ms) r = rw (absent m (suc m) hi ms (omega arith) r.1) (rise-distinct (suc m) hi ms r.1)

-- What is right in a file of so many tokens: it has no flaw and no wrong number, and no more tokens.
pub record Right (total : ℕ) (ws : List Written) : Type 0 where
  pub formed : HaveNoFlaw ws
  pub numbers : AreNumbered total ws
  pub fits : length (tokens_in ws) ≤ total

-- the number of the tokens before a writing
abbrev pub place : ℕ → List Written → ℕ
place total ws = total - length (tokens_in ws)
