-- From the instructions without a fault to valid functions, and from the first fault of a function to that of all.
use Rattle.std.proofs.Common.{◌≡◌, ℕ, ◌-◌, ◌<◌, inl, inr, List, length, Some, slice_get, max, get_or, ◌^◌, refl, sym, subst, ap, ◌∙◌, arith}
use Rattle.std.specs.Prelude.{All}
use Rattle.std.proofs.lemmas.Option.{slice_get_within, get_or_from_slice_get, slice_get-get_or}
use Rattle.std.proofs.lemmas.List.Elements.{All-get_or}
use Rattle.rb_target.specs.Validity.{CallsFit, IsValid, IsValidFun, IsBounded}
use Rattle.rb_target.specs.Spelled.{IsSpelledInstr, IsSpelledFun, AreSpelled}
use Rattle.rb_target.specs.Faults.{MiscountsSlots, HasBadSlot, HasBadJump, HasBadCall, InFun, FaultStands, IsFirstCodeFault, IsBefore, place_of_fault}
use Rattle.rb_target.specs.inner.Checking.{InstrHolds, CountsSlots, HasGoodSlots, HasGoodJumps, IsFaultless, IsFaultAt, IsFaultIn}
use Rattle.rb_target.specs.declared.instr.Instr.{Instr}
use Rattle.rb_target.specs.declared.code.CodeFun.{CodeFun}
use Rattle.rb_target.specs.declared.fault.CodeFault.{CodeFault}
use Rattle.rb_target.specs.declared.fault.CodeFault.TheVariants.{CodeSyntax, BadSlot, BadJump, BadCall, Memory}

-- a number names one function
pub same_fun : (funs : List CodeFun) (n : ℕ) (P : CodeFun → Type 0) (f : CodeFun) → slice_get funs n ≡ Some f → InFun funs n P → P f
same_fun funs n P f at (g, there, p) = let e : g ≡ f = cc in subst P e p

counts-right : (f : CodeFun) → CountsSlots f → MiscountsSlots f → ⊥
counts-right f counts (inl few) = omega arith
counts-right f counts (inr many) = omega arith

pub good-slots : (f : CodeFun) (pc : ℕ) → HasGoodSlots f pc → HasBadSlot f pc → ⊥
good-slots f pc good (inl (zero, miscounts)) = counts-right f (good.0 zero) miscounts
good-slots f pc good (inr (i, at, fails)) = fails (good.1 i at)

pub good-jumps : (f : CodeFun) (pc : ℕ) → HasGoodJumps f pc → HasBadJump f pc → ⊥
good-jumps f pc good (inl (last, fails)) = fails (good.0 last)
good-jumps f pc good (inr (i, at, fails)) = fails (good.1 i at)

-- where an instruction is without a fault, none stands there
pub none_there : (funs : List CodeFun) (n pc : ℕ) → InFun funs n (λ f. IsFaultless funs f pc) → (other : CodeFault) → FaultStands funs other
    → (place_of_fault other).0 ≡ n → (place_of_fault other).1 ≡ pc → ⊥
none_there funs n pc (f, at, faultless) (BadSlot m p) stands e d =
    good-slots f pc faultless.slots (subst (λ k. HasBadSlot f k) d (same_fun funs m (λ g. HasBadSlot g p) f (rw e at) stands))
none_there funs n pc (f, at, faultless) (BadJump m p) stands e d =
    good-jumps f pc faultless.jumps (subst (λ k. HasBadJump f k) d (same_fun funs m (λ g. HasBadJump g p) f (rw e at) stands))
none_there funs n pc (f, at, faultless) (BadCall m p) stands e d =
    let bad : HasBadCall funs f p = same_fun funs m (λ g. HasBadCall funs g p) f (rw e at) stands in
    bad.2 (subst (λ k. InstrHolds (CallsFit funs f.results) f k) (sym d) faultless.calls bad.0 bad.1)
none_there funs n pc faultless (CodeSyntax at) stands e d = absurd stands
none_there funs n pc faultless Memory stands e d = absurd stands

-- the least fault at an instruction is the first of its function, where all instructions before it are without one
pub first_in_fun : (funs : List CodeFun) (n pc : ℕ) (fault : CodeFault) → ((k : ℕ) → k < pc → InFun funs n (λ f. IsFaultless funs f k))
    → IsFaultAt funs n pc fault → IsFaultIn funs n fault
first_in_fun funs n pc fault before here = record {
  stands = here.stands;
  function = here.function;
  first = λ other stands function is_before. elim is_before [
    | inl less ↦ let same = here.function in omega arith
    | inr rest ↦ elim (rest.1) [
      | inl less ↦
          let same = here.instruction in
          let lt : (place_of_fault other).1 < pc = omega arith in
          none_there funs n (place_of_fault other).1 (before _ lt) other stands function refl
      | inr kind ↦
          let least = here.first other stands function (kind.0 ∙ here.instruction) in
          omega arith
    ]
  ];
}

bounded-at : (body : List Instr) (pc : ℕ) (i : Instr) → All IsSpelledInstr body → slice_get body pc ≡ Some i → IsBounded i
bounded-at body pc i spelled at =
    let within : pc < length body = slice_get_within body pc i at in
    let there : get_or body pc i ≡ i = get_or_from_slice_get body pc i i at in
    (subst IsSpelledInstr there (All-get_or IsSpelledInstr body pc i within spelled)).bounded

-- a function without a fault at each instruction, and at 0, is valid
pub valid_fun : (funs : List CodeFun) (n len : ℕ) (f : CodeFun) → slice_get funs n ≡ Some f → IsSpelledFun f → len ≡ length f.body → len < 2 ^ 64
    → ((k : ℕ) → k < max len 1 → InFun funs n (λ f. IsFaultless funs f k)) → IsValidFun funs f
valid_fun funs n len f at spelled e short faultless =
    let each : (k : ℕ) → k < max len 1 → IsFaultless funs f k = λ k lt. same_fun funs n (λ g. IsFaultless funs g k) f at (faultless k lt) in
    let zeroth : IsFaultless funs f 0 = each 0 (omega arith) in
    let last : IsFaultless funs f (length f.body - 1) = each (length f.body - 1) (omega arith) in
    let counts : CountsSlots f = zeroth.slots.0 refl in
    record {
      named = spelled.named;
      params = counts.0;
      written = counts.1;
      ends = last.jumps.0 refl;
      each = λ pc i there.
          let within : pc < length f.body = slice_get_within f.body pc i there in
          let here : IsFaultless funs f pc = each pc (omega arith) in
          record {
            bounded = bounded-at f.body pc i spelled.body there;
            slots = here.slots.1 i there;
            targets = here.jumps.1 i there;
            calls = here.calls i there;
          };
      small = (spelled.slots, spelled.results, rw (← e) short);
    }

-- the same of a number of a function
pub valid_in : (funs : List CodeFun) (n len : ℕ) (f : CodeFun) → AreSpelled funs → n < length funs → f ≡ get_or funs n f → len ≡ length f.body → len < 2 ^ 64
    → ((k : ℕ) → k < max len 1 → InFun funs n (λ f. IsFaultless funs f k)) → InFun funs n (λ f. IsValidFun funs f)
valid_in funs n len f spelled within is e short faultless =
    let at : slice_get funs n ≡ Some f = slice_get-get_or funs n f within ∙ ap Some (sym is) in
    (f, at, valid_fun funs n len f at (subst IsSpelledFun (sym is) (All-get_or IsSpelledFun funs n f within spelled)) e short faultless)

-- no fault stands in a valid function
faultless-at : (funs : List CodeFun) (f : CodeFun) → IsValidFun funs f → (pc : ℕ) → IsFaultless funs f pc
faultless-at funs f valid pc = record {
  slots = (λ first. (valid.params, valid.written), λ i at. (valid.each pc i at).slots);
  jumps = (λ last. valid.ends, λ i at. (valid.each pc i at).targets);
  calls = λ i at. (valid.each pc i at).calls;
}

none-in : (funs : List CodeFun) (n : ℕ) → InFun funs n (λ f. IsValidFun funs f) → (other : CodeFault) → FaultStands funs other → (place_of_fault other).0 ≡ n → ⊥
none-in funs n (f, at, valid) other stands e = none_there funs n (place_of_fault other).1 (f, at, faultless-at funs f valid _) other stands e refl

-- the first fault of a function is the first of all, where all functions before it are valid
pub first_of_all : (funs : List CodeFun) (n : ℕ) (fault : CodeFault) → ((k : ℕ) → k < n → InFun funs k (λ f. IsValidFun funs f))
    → IsFaultIn funs n fault → IsFirstCodeFault funs fault
first_of_all funs n fault before here = record {
  stands = here.stands;
  first = λ other stands is_before. elim is_before [
    | inl less ↦
        let same = here.function in
        let lt : (place_of_fault other).0 < n = omega arith in
        none-in funs (place_of_fault other).0 (before _ lt) other stands refl
    | inr rest ↦ here.first other stands (rest.0 ∙ here.function) (inr rest)
  ];
}

named-fun : (funs : List CodeFun) (other : CodeFault) → FaultStands funs other → InFun funs (place_of_fault other).0 (λ f. Unit {0})
named-fun funs (BadSlot n pc) (f, at, stands) = (f, at, tt)
named-fun funs (BadJump n pc) (f, at, stands) = (f, at, tt)
named-fun funs (BadCall n pc) (f, at, stands) = (f, at, tt)
named-fun funs (CodeSyntax at) stands = absurd stands
named-fun funs Memory stands = absurd stands

-- where a fault stands, the functions are not valid together
pub not_valid : (funs : List CodeFun) (other : CodeFault) → FaultStands funs other → IsValid funs → ⊥
not_valid funs other stands valid =
    let there = named-fun funs other stands in
    none-in funs (place_of_fault other).0 (there.0, there.1, valid.each _ there.0 there.1) other stands refl

pub all_valid : (funs : List CodeFun) → length funs < 2 ^ 64 → ((k : ℕ) → k < length funs → InFun funs k (λ f. IsValidFun funs f)) → IsValid funs
all_valid funs few valid = record {
  few = few;
  each = λ n f at. same_fun funs n (λ g. IsValidFun funs g) f at (valid n (slice_get_within funs n f at));
}

-- Two first faults are one

neither_less : (x y : ℕ) → (x < y → ⊥) → (y < x → ⊥) → x ≡ y
neither_less x y h k = grind arith

one_place : (a b : ℕ × ℕ × ℕ) → ¬ IsBefore a b → ¬ IsBefore b a → (a.0 ≡ b.0) × (a.1 ≡ b.1) × (a.2 ≡ b.2)
one_place a b h k =
    let fun : a.0 ≡ b.0 = neither_less a.0 b.0 (λ lt. h (inl lt)) (λ lt. k (inl lt)) in
    let pc : a.1 ≡ b.1 = neither_less a.1 b.1 (λ lt. h (inr (fun, inl lt))) (λ lt. k (inr (sym fun, inl lt))) in
    let kind : a.2 ≡ b.2 = neither_less a.2 b.2 (λ lt. h (inr (fun, inr (pc, lt)))) (λ lt. k (inr (sym fun, inr (sym pc, lt)))) in
    (fun, pc, kind)

one_fault : (funs : List CodeFun) (a b : CodeFault) → FaultStands funs a → FaultStands funs b
    → (place_of_fault a).0 ≡ (place_of_fault b).0 → (place_of_fault a).1 ≡ (place_of_fault b).1 → (place_of_fault a).2 ≡ (place_of_fault b).2 → a ≡ b
one_fault funs (BadSlot n p) (BadSlot m q) s t fun pc kind = ap (λ k. BadSlot k p) fun ∙ ap (λ k. BadSlot m k) pc
one_fault funs (BadJump n p) (BadJump m q) s t fun pc kind = ap (λ k. BadJump k p) fun ∙ ap (λ k. BadJump m k) pc
one_fault funs (BadCall n p) (BadCall m q) s t fun pc kind = ap (λ k. BadCall k p) fun ∙ ap (λ k. BadCall m k) pc
one_fault funs (BadSlot n p) (BadJump m q) s t fun pc kind = absurd (omega (arith, kind))
one_fault funs (BadSlot n p) (BadCall m q) s t fun pc kind = absurd (omega (arith, kind))
one_fault funs (BadJump n p) (BadSlot m q) s t fun pc kind = absurd (omega (arith, kind))
one_fault funs (BadJump n p) (BadCall m q) s t fun pc kind = absurd (omega (arith, kind))
one_fault funs (BadCall n p) (BadSlot m q) s t fun pc kind = absurd (omega (arith, kind))
one_fault funs (BadCall n p) (BadJump m q) s t fun pc kind = absurd (omega (arith, kind))
one_fault funs (BadSlot n p) (CodeSyntax at) s t fun pc kind = absurd t
one_fault funs (BadJump n p) (CodeSyntax at) s t fun pc kind = absurd t
one_fault funs (BadCall n p) (CodeSyntax at) s t fun pc kind = absurd t
one_fault funs (BadSlot n p) Memory s t fun pc kind = absurd t
one_fault funs (BadJump n p) Memory s t fun pc kind = absurd t
one_fault funs (BadCall n p) Memory s t fun pc kind = absurd t
one_fault funs (CodeSyntax at) b s t fun pc kind = absurd s
one_fault funs Memory b s t fun pc kind = absurd s

pub first_same : (funs : List CodeFun) (a b : CodeFault) → IsFirstCodeFault funs a → IsFirstCodeFault funs b → a ≡ b
first_same funs a b x y =
    let place = one_place (place_of_fault a) (place_of_fault b) (y.first a x.stands) (x.first b y.stands) in
    one_fault funs a b x.stands y.stands place.0 place.1 place.2
