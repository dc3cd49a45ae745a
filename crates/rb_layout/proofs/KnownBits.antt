-- Constant bits, from the highest to the lowest.
use Rattle.std.proofs.Common.{◌≡◌, ℕ, zero, suc, ◌+◌, ◌-◌, ◌*◌, ◌^◌, ◌<◌, ◌≤◌, ◌&&◌, List, [], ◌∷◌, Bool, true, false, Option, Some, None, refl, sym, ap, ◌∙◌, arith}
use Rattle.std.specs.Prelude.{leb, ltb, if◌then◌else◌}
use Rattle.std.specs.Option.{option_or}
use Rattle.std.specs.Int.{bit_at}
use Rattle.std.proofs.lemmas.Nat.{pow-add}
use Rattle.std.proofs.lemmas.Nat.Bits.{bit_at-lt}
use Rattle.std.proofs.lemmas.Option.{same_Some}
use Rattle.rb_layout.specs.declared.layout.Part.{Part}
use Rattle.rb_layout.specs.declared.layout.Kind.{Kind}
use Rattle.rb_layout.specs.declared.layout.Kind.TheVariants.{Const, Bits, Word, Pointer}
use Rattle.rb_layout.specs.Locations.{bit_of_kind, bit_of_part, constant_bit, constant_bits, with_bit}

kind_small : (k : Kind) (i b : ℕ) → bit_of_kind k i ≡ Some b → b < 2
kind_small (Const c) i b e = let s = same_Some (bit_at c i) b e in omega (arith, bit_at-lt c i, s)
kind_small (Bits path a) i b e = absurd cc
kind_small (Word path j) i b e = absurd cc
kind_small (Pointer align d) i b e = absurd cc

part_small : (p : Part) (i b : ℕ) (t : Bool) → (if t then bit_of_kind p.kind (i - p.o) else None) ≡ Some b → b < 2
part_small p i b true e = kind_small p.kind (i - p.o) b e
part_small p i b false e = absurd cc

first_small : (x y : Option ℕ) (b : ℕ) → (x ≡ Some b → b < 2) → (y ≡ Some b → b < 2) → option_or x y ≡ Some b → b < 2
first_small None y b h k e = k e
first_small (Some x) y b h k e = h e

-- a constant bit is 0 or 1
pub bit_small : (ps : List Part) (i b : ℕ) → constant_bit ps i ≡ Some b → b < 2
bit_small [] i b e = absurd cc
bit_small (p ∷ ps) i b e =
    first_small (bit_of_part p i) (constant_bit ps i) b (part_small p i b (leb p.o i && ltb i (p.o + p.l))) (bit_small ps i b) e

none_below : (x : Option ℕ) → with_bit x None ≡ None
none_below None = refl
none_below (Some b) = refl

-- where one bit is not constant, no number is known
pub known-none : (ps : List Part) (o l k : ℕ) → k < l → constant_bit ps (o + k) ≡ None → constant_bits ps o l ≡ None
known-none ps o zero k lt e = absurd (omega arith)
known-none ps o (suc l) zero lt e =
    let here : o + 0 ≡ o = omega arith in ap (λ b. with_bit b (constant_bits ps (o + 1) l)) (ap (constant_bit ps) (sym here) ∙ e)
known-none ps o (suc l) (suc k) lt e =
    let same : o + 1 + k ≡ o + suc k = omega arith in
    ap (with_bit (constant_bit ps o)) (known-none ps (o + 1) l k (omega arith) (ap (constant_bit ps) same ∙ e)) ∙ none_below (constant_bit ps o)

-- one more bit below
pub known-more : (ps : List Part) (o l i b n : ℕ) → 0 < i → i ≤ l → constant_bits ps (o + i) (l - i) ≡ Some n → constant_bit ps (o + (i - 1)) ≡ Some b
    → constant_bits ps (o + (i - 1)) (l - (i - 1)) ≡ Some (b + 2 * n)
known-more ps o l i b n some le rest bit =
    let long : l - (i - 1) ≡ suc (l - i) = omega arith in
    let next : o + (i - 1) + 1 ≡ o + i = omega arith in
    ap (constant_bits ps (o + (i - 1))) long ∙ ap (λ x. with_bit x (constant_bits ps (o + (i - 1) + 1) (l - i))) bit
    ∙ ap (with_bit (Some b)) (ap (λ m. constant_bits ps m (l - i)) next ∙ rest)

pub more_fits : (l i b n : ℕ) → 0 < i → i ≤ l → b < 2 → n < 2 ^ (l - i) → b + 2 * n < 2 ^ (l - (i - 1))
more_fits l i b n some le small fits =
    let long : l - (i - 1) ≡ 1 + (l - i) = omega arith in
    let twice : 2 ^ (l - (i - 1)) ≡ 2 * 2 ^ (l - i) = ap (λ k. 2 ^ k) long ∙ pow-add 2 1 (l - i) in
    omega arith
