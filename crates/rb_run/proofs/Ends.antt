-- What the end of a call comes to.
use Rattle.std.proofs.Common.{◌≡◌, ℕ, ◌-◌, ◌<◌, ◌≤◌, true, false, List, [], ◌++◌, length, refl, sym, subst, ap, ◌∙◌, arith}
use Rattle.std.specs.Prelude.{nat_le, if◌then◌else◌}
use Rattle.std.proofs.lemmas.Bool.Decides.{nat_tests}
use Rattle.rb_core.specs.declared.value.Value.{Value}
use Rattle.rb_core.specs.declared.types.Ty.{Ty}
use Rattle.rb_core.specs.declared.outcome.SourceEnd.{SourceEnd}
use Rattle.rb_core.specs.declared.outcome.SourceEnd.TheVariants as source
use Rattle.rb_core.specs.Values.{node_count}
use Rattle.rb_core.specs.Typing.{result_type}
use Rattle.rb_core.specs.Meaning.{call_of}
use Rattle.rb_bytes.specs.Memory.{Memory, IsGood}
use Rattle.rb_bytes.specs.declared.fault.Full.{Full}
use Rattle.rb_bytes.specs.declared.fault.Trap.{Trap}
use Rattle.rb_layout.specs.declared.agreed.LaidOut.{LaidOut}
use Rattle.rb_layout.specs.declared.layout.Layout.{Layout}
use Rattle.rb_layout.specs.Flattening.{flat_layouts}
use Rattle.rb_target.specs.declared.outcome.End.{End}
use Rattle.rb_target.specs.declared.outcome.End.TheVariants as target
use Rattle.rb_rel.specs.Answers.{Answer, answer_at, laid_call}
use Rattle.rb_rel.specs.Answers as answers
use Rattle.rb_rel.specs.Placing.{Laid, Fits, Over}
use Rattle.rb_rel.specs.Relation.{Represents}
use Rattle.rb_rel.proofs.Clean.{Represents-clean}
use Rattle.rb_fragment.specs.Plan.{Plan, Rep}
use Rattle.rb_coding.specs.Decoding.{AreOf}
use Rattle.rb_compile.specs.Plans.{plan_of}
use Rattle.rb_compile.specs.Refining.{EndsAs}
use Rattle.rb_run.specs.inner.Ends.{left_at, shown_within}
use Rattle.rb_run.specs.Counting.{IsTally}
use Rattle.rb_run.specs.declared.count.Tally.{Tally}
use Rattle.rb_run.specs.Calling.{IsCalled, IsEndOf, end_over}

-- a value that was returned, with the memory that holds it
pub record IsReturned (plan : Plan) (t : Ty) (new : Memory) (l : Laid) (e : SourceEnd) (words : List ℕ) : Type 0 where
  pub value : Value
  pub good : IsGood new
  pub represents : Rep plan new true t value words
  pub answers_are : (nodes : ℕ) → answer_at l e nodes ≡ shown_within nodes value

module _ (plan : Plan) (t : Ty) (m new : Memory) where
  pub returned_is : (l : Laid) (e : SourceEnd) (words : List ℕ) (left : ℕ) → EndsAs plan true t m l e (end_over (target.Returned words left) new) → IsReturned plan t new l e words
  returned_is (Over full) e words left h = absurd (cc h)
  returned_is (Fits bs p) source.Spent words left h = absurd (cc h)
  returned_is (Fits bs p) (source.Done v k) words left h = record {
    value = v;
    good = h.2.good;
    represents = subst (λ ws. Rep plan new true t v ws) (sym (cc h.1)) h.3;
    answers_are = λ nodes. refl;
  }

  pub spent_is : (l : Laid) (e : SourceEnd) → EndsAs plan true t m l e (end_over target.Spent new) → (nodes : ℕ) → answer_at l e nodes ≡ answers.Spent
  spent_is (Over full) e h nodes = absurd (cc h)
  spent_is (Fits bs p) source.Spent h nodes = refl
  spent_is (Fits bs p) (source.Done v k) h nodes = absurd (cc h.1)

  pub full_is : (l : Laid) (e : SourceEnd) (full : Full) → EndsAs plan true t m l e (end_over (target.Full full) new) → (nodes : ℕ) → answer_at l e nodes ≡ answers.Full full
  full_is (Over other) e full h nodes = ap answers.Full (cc h)
  full_is (Fits bs p) source.Spent full h nodes = absurd (cc h)
  full_is (Fits bs p) (source.Done v k) full h nodes = absurd (cc h.1)

  pub never_trapped : (l : Laid) (e : SourceEnd) (trap : Trap) → EndsAs plan true t m l e (end_over (target.Trapped trap) new) → ⊥
  never_trapped (Over full) e trap h = absurd (cc h)
  never_trapped (Fits bs p) source.Spent trap h = absurd (cc h)
  never_trapped (Fits bs p) (source.Done v k) trap h = absurd (cc h.1)

  -- what a run that returns did, from a memory without blocks on
  pub tallied : m.blocks ≡ [] → (l : Laid) (e : SourceEnd) (end : End) (calls : ℕ) (tally : Tally) → EndsAs plan true t m l e (end_over end new)
      → tally.calls ≡ calls - left_at end → tally.blocks ≡ length new.blocks → tally.bytes ≡ new.next - 64 → IsTally l e calls tally
  tallied none (Over full) e end calls tally h made blocks bytes = tt
  tallied none (Fits bs p) source.Spent end calls tally h made blocks bytes = tt
  tallied none (Fits bs p) (source.Done v left) end calls tally h made blocks bytes = (
    made ∙ ap (λ (x : End). calls - left_at x) h.1,
    blocks ∙ ap (λ (xs : List (ℕ × ℕ)). length xs) (h.2.behind ∙ ap (λ xs. xs ++ bs) none),
    bytes ∙ ap (λ n. n - 64) h.2.next,
  )

-- enough room, or not
pub few_enough : (nodes : ℕ) (v : Value) → node_count v ≤ nodes → shown_within nodes v ≡ answers.Shown v
few_enough nodes v le =
    let is : nat_le (node_count v) nodes ≡ true = grind (arith, nat_tests, le) in
    ap (λ b. if b then answers.Shown v else answers.TooLarge) is

pub too_many : (nodes : ℕ) (v : Value) → nodes < node_count v → shown_within nodes v ≡ answers.TooLarge
too_many nodes v lt =
    let is : nat_le (node_count v) nodes ≡ false = grind (arith, nat_tests, lt) in
    ap (λ b. if b then answers.Shown v else answers.TooLarge) is

module _ (agreed : LaidOut) (flat : agreed.layouts ≡ flat_layouts agreed.covered.program) (new : Memory) (words : List ℕ) (left : ℕ) where
  abbrev result : Ty
  result = result_type agreed.covered.program.funs agreed.covered.program.main

  of_value : (l : Laid) (e : SourceEnd) (r : IsReturned (plan_of agreed) result new l e words) → AreOf agreed.covered.program new result words r.value
  of_value l e r =
      let free = Represents-clean agreed.covered.program.types agreed.layouts new r.represents in
      subst (λ (layouts : List Layout). Represents agreed.covered.program.types layouts new false result r.value words) flat free

  abbrev returned : (args : List Value) (calls : ℕ) (old : Memory) → IsCalled agreed args calls old (target.Returned words left) new
      → IsReturned (plan_of agreed) result new (laid_call agreed.covered.program agreed.layouts args calls old) (call_of agreed.covered.program agreed.covered.program.main calls args).end words
  returned args calls old called =
      returned_is (plan_of agreed) result old new (laid_call agreed.covered.program agreed.layouts args calls old) (call_of agreed.covered.program agreed.covered.program.main calls args).end words left called.ends

  -- what was returned represents a value
  pub returned_value : IsEndOf agreed (target.Returned words left) new → (v : Value) × AreOf agreed.covered.program new result words v
  returned_value e = let r = returned e.0 e.1 e.2 e.3 in (r.value, of_value _ _ r)

  pub returned_answer : (meant : Answer) (nodes : ℕ) → ((v : Value) → AreOf agreed.covered.program new result words v → meant ≡ shown_within nodes v)
      → (args : List Value) (calls : ℕ) (old : Memory) → IsCalled agreed args calls old (target.Returned words left) new
      → meant ≡ answer_at (laid_call agreed.covered.program agreed.layouts args calls old) (call_of agreed.covered.program agreed.covered.program.main calls args).end nodes
  returned_answer meant nodes shown args calls old called =
      let r = returned args calls old called in
      shown r.value (of_value _ _ r) ∙ sym (r.answers_are nodes)
