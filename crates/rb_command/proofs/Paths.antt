-- Paths as words: a word spells one path at most, and each path is spelled.
use Rattle.std.proofs.Common.{◌≡◌, ◌<◌, ◌-◌, ◌^◌, ◌==◌, ℕ, List, [], ◌∷◌, ◌++◌, length, refl, sym, ap, subst, ◌∙◌, append_assoc, append-nil, arith, Bool, true, false, if◌then◌else◌, Option, Some, None, eqb-true}
use Rattle.std.specs.Char.{is_ascii_digit}
use Rattle.std.specs.Fmt.{decimal}
use Rattle.std.specs.List.{All, list_all}
use Rattle.std.proofs.lemmas.Bool.{and_parts}
use Rattle.std.proofs.lemmas.Fmt.{digits_decimal, decimal_nonempty}
use Rattle.std.proofs.lemmas.Grind.{common_steps}
use Rattle.std.proofs.lemmas.List.Elements.{All-nil, All-cons, All-head, All-tail}
use Rattle.rb_core.proofs.Decimals.{own}
use Rattle.rb_command.specs.Path.{AreSteps, steps_text, path_text}
use Rattle.rb_command.specs.inner.Parsing.{step_in, first_step, steps_from, path_in}
use Rattle.rb_command.proofs.Numbered.{spelled, read}

-- Steps ---------------------------------------------------------------------------------------

step_read : (n : ℕ) → n < 2 ^ 32 → step_in (decimal n) ≡ Some n
step_read n small = read 0 (2 ^ 32 - 1) (omega arith) n (omega arith, omega (arith, small))

step_spelled : (digits : List ℕ) (n : ℕ) → step_in digits ≡ Some n → (n < 2 ^ 32) × (digits ≡ decimal n)
step_spelled digits n e =
    let is = spelled 0 (2 ^ 32 - 1) (omega arith) digits n e in
    (omega (arith, is.0.1), is.1)

-- what is read of the first step and of the others
first_some : (o : Option ℕ) (r : Option (List ℕ)) (path : List ℕ) → first_step o r ≡ Some path
    → (n : ℕ) × (ns : List ℕ) × (o ≡ Some n) × (r ≡ Some ns) × (path ≡ n ∷ ns)
first_some None r path e = absurd (cc e)
first_some (Some n) None path e = absurd (cc e)
first_some (Some n) (Some ns) path e = (n, ns, refl, refl, cc)

-- What is spelled is read -----------------------------------------------------------------------

no_point : (d : ℕ) → is_ascii_digit d ≡ true → (d == 46) ≡ false
no_point d h = grind (arith, common_steps)

-- no byte is a point
abbrev pub AreFree : List ℕ → Type 0
AreFree bytes = All (λ b. (b == 46) ≡ false) bytes

-- bytes without a point before others
pub over_free : (digits us vs : List ℕ) → AreFree us → steps_from digits (us ++ vs) ≡ steps_from (digits ++ us) vs
over_free digits [] vs h = ap (λ xs. steps_from xs vs) (sym (append-nil digits))
over_free digits (u ∷ us) vs h =
    let other : (u == 46) ≡ false = All-head (λ b. (b == 46) ≡ false) u us h in
    let rest = over_free (digits ++ u ∷ []) us vs (All-tail (λ b. (b == 46) ≡ false) u us h) in
    rw (other) (rest ∙ ap (λ xs. steps_from xs vs) (append_assoc digits (u ∷ []) us))

digits_free : (us : List ℕ) → list_all is_ascii_digit us ≡ true → AreFree us
digits_free [] h = All-nil (λ b. (b == 46) ≡ false)
digits_free (u ∷ us) h =
    let b = and_parts (is_ascii_digit u) (list_all is_ascii_digit us) h in
    All-cons (λ b. (b == 46) ≡ false) u us (no_point u b.0) (digits_free us b.1)

number_free : (n : ℕ) → n < 2 ^ 32 → AreFree (decimal n)
number_free n small = digits_free (decimal n) (digits_decimal own n (omega (arith, small)))

steps_read : (n : ℕ) (ns : List ℕ) → AreSteps (n ∷ ns) → steps_from [] (decimal n ++ steps_text ns) ≡ Some (n ∷ ns)
steps_read n [] h =
    let small = All-head (λ step. step < 2 ^ 32) n [] h in
    over_free [] (decimal n) [] (number_free n small) ∙ ap (λ o. first_step o (Some [])) (step_read n small)
steps_read n (m ∷ ns) h =
    let small = All-head (λ step. step < 2 ^ 32) n (m ∷ ns) h in
    over_free [] (decimal n) (steps_text (m ∷ ns)) (number_free n small)
    ∙ ap (λ o. first_step o (steps_from [] (decimal m ++ steps_text ns))) (step_read n small)
    ∙ ap (λ r. first_step (Some n) r) (steps_read m ns (All-tail (λ step. step < 2 ^ 32) n (m ∷ ns) h))

-- steps behind a point
behind_point : (ds us : List ℕ) → 0 < length ds → path_in (46 ∷ (ds ++ us)) ≡ steps_from [] (ds ++ us)
behind_point [] us some = absurd (omega (arith, some))
behind_point (d ∷ ds) us some = refl

pub path_read : (path : List ℕ) → AreSteps path → path_in (path_text path) ≡ Some path
path_read [] h = refl
path_read (n ∷ ns) h =
    let small = All-head (λ step. step < 2 ^ 32) n ns h in
    behind_point (decimal n) (steps_text ns) (decimal_nonempty n (omega (arith, small))) ∙ steps_read n ns h

-- What is read is spelled -----------------------------------------------------------------------

-- these bytes are a step, and others behind it
record AreSpelled (bytes path : List ℕ) : Type 0 where
  first : ℕ
  others : List ℕ
  all : path ≡ first ∷ others
  steps : AreSteps (first ∷ others)
  text : bytes ≡ decimal first ++ steps_text others

steps_spelled : (digits bytes path : List ℕ) → steps_from digits bytes ≡ Some path → AreSpelled (digits ++ bytes) path
steps_spelled digits [] path e =
    let f = first_some (step_in digits) (Some []) path e in
    let none : [] ≡ f.1 = cc (f.3) in
    let s = step_spelled digits f.0 f.2 in
    record {
      first = f.0;
      others = [];
      all = f.4 ∙ ap (λ ns. f.0 ∷ ns) (sym none);
      steps = All-cons (λ step. step < 2 ^ 32) f.0 [] s.0 (All-nil (λ step. step < 2 ^ 32));
      text = ap (λ ds. ds ++ []) s.1;
    }
steps_spelled digits (b ∷ bs) path e =
    by_point (b == 46) refl (λ p. steps_spelled [] bs p) (steps_spelled (digits ++ b ∷ []) bs path) e where
      by_point : (c : Bool) → (b == 46) ≡ c → ((p : List ℕ) → steps_from [] bs ≡ Some p → AreSpelled bs p)
          → (steps_from (digits ++ b ∷ []) bs ≡ Some path → AreSpelled ((digits ++ b ∷ []) ++ bs) path)
          → (if c then first_step (step_in digits) (steps_from [] bs) else steps_from (digits ++ b ∷ []) bs) ≡ Some path → AreSpelled (digits ++ b ∷ bs) path
      by_point true is later more e =
          let f = first_some (step_in digits) (steps_from [] bs) path e in
          let s = step_spelled digits f.0 f.2 in
          let rest = later f.1 f.3 in
          let point : b ≡ 46 = eqb-true b 46 is in
          let tail : b ∷ bs ≡ steps_text (rest.first ∷ rest.others) = cc (point, rest.text) in
          record {
            first = f.0;
            others = rest.first ∷ rest.others;
            all = f.4 ∙ ap (λ ns. f.0 ∷ ns) rest.all;
            steps = All-cons (λ step. step < 2 ^ 32) f.0 (rest.first ∷ rest.others) s.0 rest.steps;
            text = ap (λ ds. ds ++ b ∷ bs) s.1 ∙ ap (λ us. decimal f.0 ++ us) tail;
          }
      by_point false is later more e = subst (λ us. AreSpelled us path) (append_assoc digits (b ∷ []) bs) (more e)

pub path_spelled : (w path : List ℕ) → path_in w ≡ Some path → AreSteps path × (w ≡ path_text path)
path_spelled [] path e = absurd (cc e)
path_spelled (b ∷ []) path e = by_point (b == 46) refl e where
  by_point : (c : Bool) → (b == 46) ≡ c → (if c then Some [] else None) ≡ Some path → AreSteps path × (b ∷ [] ≡ path_text path)
  by_point true is e =
      let point : b ≡ 46 = eqb-true b 46 is in
      let none : [] ≡ path = cc (e) in
      subst (λ p. AreSteps p × (b ∷ [] ≡ path_text p)) none (All-nil (λ step. step < 2 ^ 32), ap (λ c. c ∷ []) point)
  by_point false is e = absurd (cc e)
path_spelled (b ∷ c ∷ bs) path e = by_point (b == 46) refl e where
  by_point : (t : Bool) → (b == 46) ≡ t → (if t then steps_from [] (c ∷ bs) else None) ≡ Some path → AreSteps path × (b ∷ c ∷ bs ≡ path_text path)
  by_point true is e =
      let point : b ≡ 46 = eqb-true b 46 is in
      let s = steps_spelled [] (c ∷ bs) path e in
      subst (λ p. AreSteps p × (b ∷ c ∷ bs ≡ path_text p)) (sym s.all) (s.steps, cc (point, s.text))
  by_point false is e = absurd (cc e)

pub one_path : (p q : List ℕ) → AreSteps p → AreSteps q → path_text p ≡ path_text q → p ≡ q
one_path p q h k e = some_same (sym (path_read p h) ∙ ap path_in e ∙ path_read q k) where
  some_same : Some p ≡ Some q → p ≡ q
  some_same is = cc
