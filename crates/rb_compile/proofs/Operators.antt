-- Operators on integers, and low bits.
use Rattle.std.proofs.Common.{◌≡◌, ℕ, zero, suc, ◌+◌, ◌%◌, ◌^◌, ◌<◌, ◌≤◌, inl, inr, Bool, true, List, [], ◌∷◌, length, Option, Some, None, Ok, refl, sym, subst, ap, ◌∙◌, arith}
use Rattle.std.proofs.Math.Nat.{mod-lt, div-one}
use Rattle.std.proofs.lemmas.Bool.Decides.{nat_tests}
use Rattle.std.specs.Prelude.{slice_index, unwrap_or, nat_le}
use Rattle.std.proofs.lemmas.Bool.{and_parts}
use Rattle.rb_core.specs.declared.value.Value.{Value, Num}
use Rattle.rb_core.specs.declared.types.Ty.{Ty}
use Rattle.rb_core.specs.declared.types.Ty.TheVariants.{Int}
use Rattle.rb_core.specs.declared.binding.Binding.{Binding}
use Rattle.rb_core.specs.declared.expression.Op.{Op}
use Rattle.rb_core.specs.declared.expression.Expr.{Expr}
use Rattle.rb_core.specs.declared.expression.Expr as X
use Rattle.rb_core.specs.declared.outcome.Outcome.{Outcome}
use Rattle.rb_core.specs.Typing.{operand_wanted, operator_type, type_of}
use Rattle.rb_core.specs.Inference.{width_of}
use Rattle.rb_core.specs.WellNumbered.{is_between}
use Rattle.rb_core.specs.Meaning.{Calls, operation_outcome, cut_to, number_of, op_value, then_do}
use Rattle.rb_core.proofs.MeaningForms.{meaning-Binary, meaning-To}
use Rattle.rb_core.proofs.NumberedForms.{numbered-Binary, numbered-To}
use Rattle.rb_core.proofs.OperatorLaws.{op_fits, number_of-Num}
use Rattle.rb_core.proofs.TypedForms.{typed-Binary, typed-To}
use Rattle.rb_bits.specs.Words.{take_of}
use Rattle.rb_target.specs.declared.instr.Instr.{Instr}
use Rattle.rb_target.specs.declared.instr.Instr.TheVariants.{Alu, Take}
use Rattle.rb_target.specs.Meaning.{alu_of, slots_at}
use Rattle.rb_target.specs.Operators.{alu_op_of}
use Rattle.rb_target.specs.Sheet.{Sheet, with_more, with_slot}
use Rattle.rb_target.proofs.Operating.{same_operator}
use Rattle.rb_rel.specs.Relation.{number}
use Rattle.rb_fragment.specs.declared.held.Held.{Held}
use Rattle.rb_fragment.specs.declared.held.Local.{Local}
use Rattle.rb_fragment.specs.Plan.{Plan, Rep, words_needed}
use Rattle.rb_fragment.specs.Adding.{Adds}
use Rattle.rb_fragment.specs.Slots.{AllBelow}
use Rattle.rb_fragment.specs.Holding.{AreGiven, Holds, scope_of}
use Rattle.rb_fragment.specs.Fragments.{Emits, Fragment}
use Rattle.rb_fragment.proofs.Adding.{Adds-one, Adds-trans}
use Rattle.rb_fragment.proofs.Fragments.{one, seq, weaken}
use Rattle.rb_fragment.proofs.Holds.{AreGiven-more, Holds-kept, slots_at-kept}
use Rattle.rb_fragment.proofs.Represented.{Rep-int, Rep-kept}
use Rattle.rb_compile.specs.inner.Forms.{EmitsExpr, IsOne, meaning_within, stated_width}
use Rattle.rb_compile.proofs.Forms.{one_is, same_emits}
use Rattle.rb_compile.proofs.Sites.{ready-Binary, ready-To}

no_bits : (op : Op) → op_value op 1 0 0 ≡ op_value op 0 0 0
no_bits Op.Add = refl
no_bits Op.Sub = refl
no_bits Op.Mul = refl
no_bits Op.And = refl
no_bits Op.Or = refl
no_bits Op.Xor = refl
no_bits Op.Eq = refl
no_bits Op.Lt = refl

-- at no bits both operands are 0, so that one bit does as well
stated : (op : Op) (bits x y : ℕ) → x < 2 ^ bits → y < 2 ^ bits → op_value op (stated_width (Int bits)) x y ≡ op_value op (width_of (Int bits)) x y
stated op zero x y hx hy =
    let ex : 0 ≡ x = omega (arith, hx) in let ey : 0 ≡ y = omega (arith, hy) in
    subst (λ a. op_value op 1 a y ≡ op_value op 0 a y) ex (subst (λ b. op_value op 1 0 b ≡ op_value op 0 0 b) ey (no_bits op))
stated op (suc k) x y hx hy =
    let e : stated_width (Int (suc k)) ≡ width_of (Int (suc k)) = omega arith in ap (λ w. op_value op w x y) e

-- a value of one word stands in the first of its slots
first_word : (s xs : List ℕ) (x : ℕ) → slots_at s xs ≡ x ∷ [] → slice_index s (slice_index xs 0) ≡ x
first_word s [] x e = cc
first_word s (y ∷ ys) x e = cc

first_below : (n : ℕ) (xs : List ℕ) → AllBelow n xs → length xs ≡ 1 → slice_index xs 0 < n
first_below n [] below e = absurd (omega (arith, e))
first_below n (x ∷ xs) below e = below.0

module _ (plan : Plan) (ea eb : Calls → ℕ → List Binding → Outcome) (op : Op) (bits : ℕ) (t : Ty) (ls : List Local) (a b c : Sheet) (xs ys : List ℕ) (is : operator_type op (Int bits) ≡ t) where
  abbrev instr : Instr
  instr = Alu (alu_op_of op) (stated_width (Int bits)) c.slots (slice_index xs 0) (slice_index ys 0)

  abbrev after : Sheet
  after = with_more (with_slot c) instr

  last : (calls : Calls) (clean : Bool) (v w : Value)
      → Fragment plan clean calls c after (λ s m. Rep plan m clean (Int bits) v (slots_at s xs) × Rep plan m clean (Int bits) w (slots_at s ys)) (operation_outcome op (width_of (Int bits)) v w) t (c.slots ∷ [])
  last calls clean v w = one plan clean calls c instr (λ s m. Rep plan m clean (Int bits) v (slots_at s xs) × Rep plan m clean (Int bits) w (slots_at s ys)) (operation_outcome op (width_of (Int bits)) v w) t
      (λ next callee pc s u pre.
      let x = Rep-int plan clean u.memory bits v (slots_at s xs) pre.0 in
      let y = Rep-int plan clean u.memory bits w (slots_at s ys) pre.1 in
      let sx = first_word s xs x.0 x.2 in
      let sy = first_word s ys y.0 y.2 in
      let vx : number_of v ≡ x.0 = ap number_of x.1 ∙ number_of-Num x.0 in
      let wy : number_of w ≡ y.0 = ap number_of y.1 ∙ number_of-Num y.0 in
      let result = op_value op (width_of (Int bits)) (number_of v) (number_of w) in
      let word = alu_of (alu_op_of op) (stated_width (Int bits)) (slice_index s (slice_index xs 0)) (slice_index s (slice_index ys 0)) in
      let same : word ≡ result = same_operator op (stated_width (Int bits)) _ _
      ∙ ap (λ k. op_value op (stated_width (Int bits)) k (slice_index s (slice_index ys 0))) sx
      ∙ ap (λ k. op_value op (stated_width (Int bits)) x.0 k) sy
      ∙ stated op bits x.0 y.0 x.3 y.3
      ∙ ap (λ k. op_value op (width_of (Int bits)) k y.0) (sym vx)
      ∙ ap (λ k. op_value op (width_of (Int bits)) (number_of v) k) (sym wy) in
      let fit = op_fits op bits (number_of v) (number_of w) in (
        Num result,
        word,
        refl,
        refl,
        subst (λ k. Rep plan u.memory clean t (Num result) (k ∷ [])) (sym same)
            (subst (λ k. Rep plan u.memory clean k (Num result) (result ∷ [])) (sym fit.1 ∙ is) (number fit.0 result fit.2)),
      ))

  operator_emits : AreGiven plan a.slots ls → Emits plan ea ls a b (Int bits) xs → Emits plan eb ls b c (Int bits) ys
      → Emits plan (λ calls left env. then_do (ea calls left env) (λ v rest. then_do (eb calls rest env) (operation_outcome op (width_of (Int bits)) v))) ls a after t (c.slots ∷ [])
  operator_emits given first second =
      let x_low : slice_index xs 0 < c.slots + 1 = (let h = first_below b.slots xs first.given first.count in omega (arith, h, second.adds.more)) in
      let y_low : slice_index ys 0 < c.slots + 1 = (let h = first_below c.slots ys second.given second.count in omega (arith, h)) in
      let adds : Adds plan c after = Adds-one plan c instr (0, omega arith, refl) (record { bounded = (omega arith, omega arith); slots_fit = (omega arith, x_low, y_low); targets = tt; calls = tt }) in
      let tail = Adds-trans plan b c after second.adds adds in
      let given1 = AreGiven-more plan a.slots b.slots ls first.adds.more given in
      let fit = op_fits op bits 0 0 in
      let ty : t ≡ Int fit.0 = sym is ∙ fit.1 in
      record {
        adds = Adds-trans plan a b after first.adds tail;
        given = (omega arith, tt);
        count = ap (words_needed plan) (sym ty);
        origin = λ y h. elim h [ inl e ↦ inl (omega (arith, e, first.adds.more, second.adds.more)) | inr e ↦ absurd e ];
        does = λ calls clean env.
            seq plan clean calls a b after (Int bits) t xs (c.slots ∷ []) (λ s m. Holds plan clean s m ls env) (λ v s m. Rep plan m clean (Int bits) v (slots_at s xs) × Holds plan clean s m ls env)
            (λ left. ea calls left env) (λ v rest. then_do (eb calls rest env) (operation_outcome op (width_of (Int bits)) v)) first.adds tail (first.does calls clean env)
            (λ v. seq plan clean calls b c after (Int bits) t ys (c.slots ∷ []) (λ s m. Rep plan m clean (Int bits) v (slots_at s xs) × Holds plan clean s m ls env)
            (λ w s m. Rep plan m clean (Int bits) v (slots_at s xs) × Rep plan m clean (Int bits) w (slots_at s ys))
            (λ left. eb calls left env) (operation_outcome op (width_of (Int bits)) v) second.adds adds
            (weaken plan clean calls b c (λ s m. Holds plan clean s m ls env) (λ s m. Rep plan m clean (Int bits) v (slots_at s xs) × Holds plan clean s m ls env) (λ left. eb calls left env) (Int bits) ys (λ s m pre. pre.1) (second.does calls clean env))
            (λ w. last calls clean v w)
            (λ w s s' m m' ext keeps rep pre. (subst (λ u. Rep plan m' clean (Int bits) v u) (sym (slots_at-kept b.slots s s' xs first.given keeps)) (Rep-kept plan clean m m' ext pre.0), rep)))
            (λ v s s' m m' ext keeps rep pre. (rep, Holds-kept plan clean m m' ext a.slots s s' keeps ls env given pre));
      }

module _ (plan : Plan) (f at : ℕ) (op : Op) (ea eb : Expr) (wanted : Option Ty) (ls : List Local) (a b c d : Sheet) (hx hy held : Held) where
  abbrev ty : Ty
  ty = unwrap_or (operand_wanted op wanted) hx.ty

  abbrev whole : Instr
  whole = Alu (alu_op_of op) (stated_width ty) c.slots (slice_index hx.slots 0) (slice_index hy.slots 0)

  pub binary_expr : EmitsExpr plan f ea (operand_wanted op wanted) ls a b hx → EmitsExpr plan f eb (Some ty) ls b c hy → IsOne c whole (operator_type op ty) d held
      → EmitsExpr plan f (X.Binary at op ea eb) wanted ls a d held
  binary_expr first second it = one_is plan f (X.Binary at op ea eb) wanted ls a c d whole (operator_type op ty) held it (λ t ready.
      let types = plan.program.types in let funs = plan.program.funs in
      let given = ready.given in
      let wn = numbered-Binary types funs at op ea eb ready.within ready.numbered in
      let p = typed-Binary types funs at op ea eb wanted (scope_of ls) t ready.typed in
      let n = p.0 in
      let sites = ready-Binary plan f at op ea eb (scope_of ls) ready.ready_sites in
      let A = first (Int n) (record { sound = ready.sound; typed = p.2; within = ready.within; numbered = wn.0; given = given; ready_sites = sites.0 }) in
      let is : ty ≡ Int n = ap (λ u. unwrap_or (operand_wanted op wanted) u) A.0 ∙ p.4 in
      let typed1 = subst (λ u. type_of types funs eb (Some u) (scope_of ls) ≡ Ok (Int n)) (sym is) p.3 in
      let given1 = AreGiven-more plan a.slots b.slots ls A.1.adds.more given in
      let B = second (Int n) (record { sound = ready.sound; typed = typed1; within = ready.within; numbered = wn.1; given = given1; ready_sites = sites.1 }) in
      let second1 = subst (λ u. Emits plan (meaning_within plan f eb (Some u) ls) ls b c (Int n) hy.slots) is B.1 in
      let all = operator_emits plan (meaning_within plan f ea (operand_wanted op wanted) ls) (meaning_within plan f eb (Some (Int n)) ls) op n t ls a b c hx.slots hy.slots p.5 given A.1 second1 in
      let named = same_emits plan (meaning_within plan f (X.Binary at op ea eb) wanted ls) (λ calls left env. then_do (meaning_within plan f ea (operand_wanted op wanted) ls calls left env) (λ v rest. then_do (meaning_within plan f eb (Some (Int n)) ls calls rest env) (operation_outcome op (width_of (Int n)) v)))
      ls a (after plan (meaning_within plan f ea (operand_wanted op wanted) ls) (meaning_within plan f eb (Some (Int n)) ls) op n t ls a b c hx.slots hy.slots p.5) t (c.slots ∷ [])
      (λ calls left env. meaning-Binary plan.program calls f wanted (scope_of ls) left env at op ea eb
      ∙ ap (λ u. then_do (meaning_within plan f ea (operand_wanted op wanted) ls calls left env) (λ v rest. then_do (meaning_within plan f eb (Some u) ls calls rest env) (operation_outcome op (width_of u) v))) p.1) all in (
        ap (operator_type op) is ∙ p.5,
        subst (λ u. Emits plan (meaning_within plan f (X.Binary at op ea eb) wanted ls) ls a (with_more (with_slot c) (Alu (alu_op_of op) (stated_width u) c.slots (slice_index hx.slots 0) (slice_index hy.slots 0))) t (c.slots ∷ [])) (sym is) named,
      ))

-- Low bits

between : (a b n : ℕ) → is_between a b n ≡ true → (a ≤ n) × (n ≤ b)
between a b n e =
    let h = and_parts (nat_le a n) (nat_le n b) e in
    let lo : a ≤ n = grind (arith, nat_tests, h.0) in let hi : n ≤ b = grind (arith, nat_tests, h.1) in (lo, hi)

low_word : (n bits : ℕ) → take_of n 0 bits ≡ n % 2 ^ bits
low_word n bits = ap (λ k. k % 2 ^ bits) (div-one n)

pow_pos : (k : ℕ) → 0 < 2 ^ k
pow_pos zero = omega arith
pow_pos (suc k) = let h = pow_pos k in omega (arith, h)

module _ (plan : Plan) (ea : Calls → ℕ → List Binding → Outcome) (n bits : ℕ) (ls : List Local) (a b : Sheet) (xs : List ℕ) (low : 1 ≤ bits) (high : bits ≤ 64) where
  abbrev cut : Instr
  cut = Take b.slots (slice_index xs 0) 0 bits

  cut_does : (calls : Calls) (clean : Bool) (v : Value) → Fragment plan clean calls b (with_more (with_slot b) cut) (λ s m. Rep plan m clean (Int n) v (slots_at s xs)) (cut_to bits v) (Int bits) (b.slots ∷ [])
  cut_does calls clean v = one plan clean calls b cut (λ s m. Rep plan m clean (Int n) v (slots_at s xs)) (cut_to bits v) (Int bits)
      (λ next callee pc s u pre.
      let x = Rep-int plan clean u.memory n v (slots_at s xs) pre in
      let sx = first_word s xs x.0 x.2 in
      let vx : number_of v ≡ x.0 = ap number_of x.1 ∙ number_of-Num x.0 in
      let result = number_of v % 2 ^ bits in
      let word = take_of (slice_index s (slice_index xs 0)) 0 bits in
      let same : word ≡ result = low_word (slice_index s (slice_index xs 0)) bits ∙ ap (λ k. k % 2 ^ bits) (sx ∙ sym vx) in
      (Num result, word, refl, refl, subst (λ k. Rep plan u.memory clean (Int bits) (Num result) (k ∷ [])) (sym same) (number bits result (mod-lt (number_of v) (pow_pos bits)))))

  cut_emits : AreGiven plan a.slots ls → Emits plan ea ls a b (Int n) xs → Emits plan (λ calls left env. then_do (ea calls left env) (cut_to bits)) ls a (with_more (with_slot b) cut) (Int bits) (b.slots ∷ [])
  cut_emits given first =
      let x_low : slice_index xs 0 < b.slots + 1 = (let h = first_below b.slots xs first.given first.count in omega (arith, h)) in
      let adds : Adds plan b (with_more (with_slot b) cut) = Adds-one plan b cut (0, omega arith, refl) (record { bounded = (low, omega (arith, high)); slots_fit = (omega arith, x_low); targets = tt; calls = tt }) in
      record {
        adds = Adds-trans plan a b (with_more (with_slot b) cut) first.adds adds;
        given = (omega arith, tt);
        count = refl;
        origin = λ y h. elim h [ inl e ↦ inl (omega (arith, e, first.adds.more)) | inr e ↦ absurd e ];
        does = λ calls clean env. seq plan clean calls a b (with_more (with_slot b) cut) (Int n) (Int bits) xs (b.slots ∷ []) (λ s m. Holds plan clean s m ls env) (λ v s m. Rep plan m clean (Int n) v (slots_at s xs))
            (λ left. ea calls left env) (cut_to bits) first.adds adds (first.does calls clean env) (λ v. cut_does calls clean v) (λ v s s' m m' ext keeps rep pre. rep);
      }

pub to_expr : (plan : Plan) (f at bits : ℕ) (ea : Expr) (wanted : Option Ty) (ls : List Local) (a b d : Sheet) (hx held : Held) → EmitsExpr plan f ea None ls a b hx
    → IsOne b (Take b.slots (slice_index hx.slots 0) 0 bits) (Int bits) d held → EmitsExpr plan f (X.To at bits ea) wanted ls a d held
to_expr plan f at bits ea wanted ls a b d hx held first it =
    let i = Take b.slots (slice_index hx.slots 0) 0 bits in
    one_is plan f (X.To at bits ea) wanted ls a b d i (Int bits) held it (λ t ready.
    let types = plan.program.types in let funs = plan.program.funs in
    let wn = numbered-To types funs at bits ea ready.within ready.numbered in
    let range = between 1 64 bits wn.0 in
    let p = typed-To types funs at bits ea wanted (scope_of ls) t ready.typed in
    let A = first (Int p.0) (record { sound = ready.sound; typed = p.1; within = ready.within; numbered = wn.1; given = ready.given; ready_sites = ready-To plan f at bits ea (scope_of ls) ready.ready_sites }) in
    let all = cut_emits plan (meaning_within plan f ea None ls) p.0 bits ls a b hx.slots range.0 range.1 ready.given A.1 in (
      p.2,
      subst (λ u. Emits plan (meaning_within plan f (X.To at bits ea) wanted ls) ls a (with_more (with_slot b) i) u (b.slots ∷ [])) p.2
          (same_emits plan (meaning_within plan f (X.To at bits ea) wanted ls) (λ calls left env. then_do (meaning_within plan f ea None ls calls left env) (cut_to bits)) ls a (with_more (with_slot b) i) (Int bits) (b.slots ∷ [])
          (λ calls left env. meaning-To plan.program calls f wanted (scope_of ls) left env at bits ea) all),
    ))
