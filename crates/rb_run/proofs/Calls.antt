-- A call of `main` behind its encoded arguments does what the source's call does.
use Rattle.std.proofs.Common.{◌≡◌, ℕ, ◌+◌, ◌<◌, Bool, true, List, [], ◌∷◌, ◌++◌, map, length, Option, Some, Ok, Err, refl, sym, subst, ap, ◌∙◌, arith, append_assoc, length-append}
use Rattle.std.specs.Prelude.{slice_get, nat_lt}
use Rattle.std.proofs.lemmas.Bool.Decides.{nat_tests}
use Rattle.rb_core.specs.declared.value.Value.{Value}
use Rattle.rb_core.specs.declared.types.Ty.{Ty}
use Rattle.rb_core.specs.declared.outcome.Event.{Event}
use Rattle.rb_core.specs.declared.outcome.SourceEnd.{SourceEnd}
use Rattle.rb_core.specs.declared.outcome.SourceEnd.TheVariants as source
use Rattle.rb_core.specs.declared.outcome.Outcome.{Outcome as Meant}
use Rattle.rb_core.specs.declared.program.Fun.{Fun}
use Rattle.rb_core.specs.declared.program.Param.{Param}
use Rattle.rb_core.specs.declared.program.Program.{Program}
use Rattle.rb_core.specs.Meaning.{call_of}
use Rattle.rb_core.specs.TypedPrograms.{IsTyped}
use Rattle.rb_core.specs.Typing.{param_types, params_of, result_of, result_type}
use Rattle.rb_bytes.specs.Memory.{Memory, IsGood}
use Rattle.rb_bytes.specs.Laws.{Extends}
use Rattle.rb_bytes.specs.Growth.{Grown}
use Rattle.rb_bytes.specs.declared.fault.Full.{Full}
use Rattle.rb_bytes.proofs.GrowthLemmas.{Grown-extends, Grown-trans}
use Rattle.rb_layout.specs.declared.agreed.LaidOut.{LaidOut}
use Rattle.rb_layout.specs.declared.layout.Layout.{Layout}
use Rattle.rb_layout.specs.Flattening.{flat_layouts}
use Rattle.rb_coding.proofs.OnlyLemmas.{apart_kept, represented_apart}
use Rattle.rb_coding.specs.Encoding.{AreEncoded, StandApart}
use Rattle.rb_coding.specs.declared.fault.EncodeFault.TheVariants.{Full as Unfit}
use Rattle.rb_machine.specs.Runs.{IsNotTrapped, params_in}
use Rattle.rb_target.specs.declared.code.CodeFun.{CodeFun}
use Rattle.rb_target.specs.declared.outcome.End.{End}
use Rattle.rb_target.specs.declared.outcome.End.TheVariants as target
use Rattle.rb_target.specs.Meaning.{CallEnd, run_of}
use Rattle.rb_rel.specs.Placing.{Laid, Fits, Over, Request, lay, requests_at, requests_of}
use Rattle.rb_rel.specs.Answers.{all_makings, laid_arguments, laid_call, making_arguments}
use Rattle.rb_rel.specs.Relation.{Represent}
use Rattle.rb_rel.proofs.Lists.{got}
use Rattle.rb_fragment.specs.Plan.{Plan, Reps, types_of, words_needed_by, words_needed}
use Rattle.rb_fragment.proofs.Laying.{all_behind, lay-append, then_lay}
use Rattle.rb_fragment.proofs.Represented.{Rep-count}
use Rattle.rb_compile.specs.Plans.{plan_of}
use Rattle.rb_compile.specs.Refining.{EndsAs, Refines}
use Rattle.rb_run.specs.Calling.{CountsAs, HoldArguments, IsCalled, IsCounted, end_over}

module _ (plan : Plan) (clean : Bool) (t : Ty) (run : CallEnd) where
  -- blocks that stand before others do not change how a run ends
  ends_behind : (m m1 : Memory) (bs : List (ℕ × ℕ)) (p : ℕ) → Grown m m1 bs p → (l : Laid) (e : SourceEnd) → EndsAs plan clean t m1 l e run → EndsAs plan clean t m (all_behind bs l) e run
  ends_behind m m1 bs p g (Over full) e h = h
  ends_behind m m1 bs p g (Fits cs q) source.Spent h = h
  ends_behind m m1 bs p g (Fits cs q) (source.Done v left) h = (h.0, h.1, Grown-trans m m1 run.world.memory bs cs p q g h.2, h.3)

  not_trapped : (m : Memory) (l : Laid) (e : SourceEnd) → EndsAs plan clean t m l e run → IsNotTrapped run.ended
  not_trapped m (Over full) e h = subst IsNotTrapped (sym h) tt
  not_trapped m (Fits cs q) source.Spent h = subst IsNotTrapped (sym h) tt
  not_trapped m (Fits cs q) (source.Done v left) h = subst IsNotTrapped (sym h.1) tt

  -- where it returned, the memory has what it had before
  pub returned_extends : (m : Memory) (l : Laid) (e : SourceEnd) → IsGood m → EndsAs plan clean t m l e run → (words : List ℕ) (left : ℕ) → run.ended ≡ target.Returned words left
      → Extends m run.world.memory
  returned_extends m (Over full) e good h words left is = absurd (let x = sym h ∙ is in cc)
  returned_extends m (Fits cs q) source.Spent good h words left is = absurd (let x = sym h ∙ is in cc)
  returned_extends m (Fits cs q) (source.Done v k) good h words left is = Grown-extends m run.world.memory cs q good h.2

  -- what is said of a run speaks of its end and its memory alone
  ends_seen : (m : Memory) (l : Laid) (e : SourceEnd) → EndsAs plan clean t m l e run → (end : End) (new : Memory) → end ≡ run.ended → new ≡ run.world.memory
      → EndsAs plan clean t m l e (end_over end new)
  ends_seen m (Over full) e h end new is same = is ∙ h
  ends_seen m (Fits cs q) source.Spent h end new is same = is ∙ h
  ends_seen m (Fits cs q) (source.Done v left) h end new is same =
      subst (λ k. EndsAs plan clean t m (Fits cs q) (source.Done v left) (end_over end k)) (sym same) (h.0, is ∙ h.1, h.2, h.3)

requests-append : (layouts : List Layout) (a b : List Event) → requests_of layouts (a ++ b) ≡ requests_of layouts a ++ requests_of layouts b
requests-append layouts [] b = refl
requests-append layouts (v ∷ a) b =
    ap (λ l. requests_at layouts v ++ l) (requests-append layouts a b) ∙ sym (append_assoc (requests_at layouts v) (requests_of layouts a) (requests_of layouts b))

words_length : (plan : Plan) (clean : Bool) (m : Memory) (ts : List Ty) (vs : List Value) (ws : List ℕ) → Reps plan m clean ts vs ws → length ws ≡ words_needed_by plan ts
words_length plan clean m [] [] ws r = ap length r
words_length plan clean m [] (v ∷ vs) ws r = absurd r
words_length plan clean m (t ∷ ts) [] ws r = absurd r
words_length plan clean m (t ∷ ts) (v ∷ vs) ws r =
    let first : length r.0 ≡ words_needed plan t = Rep-count plan clean m r.3 in
    let rest = words_length plan clean m ts vs r.1 r.4 in
    ap length r.2 ∙ length-append r.0 r.1 ∙ ap (λ n. n + length r.1) first ∙ ap (λ n. words_needed plan t + n) rest

below : (a b : ℕ) → nat_lt a b ≡ true → a < b
below a b e = grind (arith, nat_tests, e)

-- the arguments fit, and their words are there
pub record Encoded (agreed : LaidOut) (args : List Value) (old m : Memory) (ws : List ℕ) : Type 0 where
  pub blocks : List (ℕ × ℕ)
  pub next : ℕ
  pub fits : laid_arguments agreed.covered.program agreed.layouts args old ≡ Fits blocks next
  pub grown : Grown old m blocks next
  pub hold : HoldArguments agreed args old m blocks next ws

module _ (agreed : LaidOut) (args : List Value) (old : Memory) (flat : agreed.layouts ≡ flat_layouts agreed.covered.program) (tys : List Ty)
    (tys_are : tys ≡ param_types agreed.covered.program.funs agreed.covered.program.main) where
  laid_as : lay old.limit old.next (requests_of (flat_layouts agreed.covered.program) (all_makings agreed.covered.program.types args tys)) ≡ laid_arguments agreed.covered.program agreed.layouts args old
  laid_as =
      ap (λ layouts. lay old.limit old.next (requests_of layouts (all_makings agreed.covered.program.types args tys))) (sym flat)
      ∙ ap (λ ts. lay old.limit old.next (requests_of agreed.layouts (all_makings agreed.covered.program.types args ts))) tys_are

  pub is_encoded : (m : Memory) (ws : List ℕ) → AreEncoded agreed.covered.program tys args old m (Ok ws) → Encoded agreed args old m ws
  is_encoded m ws e = record {
    blocks = e.0;
    next = e.1;
    fits = sym laid_as ∙ e.2;
    grown = e.3;
    hold = subst (λ ts. StandApart agreed.covered.program.types agreed.layouts m ts args old.next e.0 e.1 ws) tys_are (
        subst (λ layouts. StandApart agreed.covered.program.types layouts m tys args old.next e.0 e.1 ws) (sym flat) (
        subst (λ next. StandApart agreed.covered.program.types (flat_layouts agreed.covered.program) m tys args old.next e.0 next ws) e.3.next e.4));
  }

  pub is_unfit : (m : Memory) (full : Full) → AreEncoded agreed.covered.program tys args old m (Err (Unfit full)) → laid_arguments agreed.covered.program agreed.layouts args old ≡ Over full
  is_unfit m full e = sym laid_as ∙ e.0

module _ (agreed : LaidOut) (code : List CodeFun) (r : Refines (plan_of agreed) code) (typed : IsTyped agreed.covered.program) (args : List Value) (calls : ℕ) (old : Memory) where
  abbrev p : Program
  p = agreed.covered.program

  abbrev meant : Meant
  meant = call_of p p.main calls args

  main_at : (f : Fun) × (slice_get p.funs p.main ≡ Some f)
  main_at = got p.funs p.main (below p.main (length p.funs) typed.numbered.main)

  main_types : param_types p.funs p.main ≡ types_of main_at.0
  main_types = ap (λ (o : Option Fun). map (λ (x : Param). x.ty) (params_of o)) main_at.1

  main_result : result_type p.funs p.main ≡ main_at.0.result
  main_result = ap result_of main_at.1

  abbrev log_requests : List Request
  log_requests = requests_of agreed.layouts meant.log

  laid_is : laid_call p agreed.layouts args calls old ≡ then_lay old.limit (laid_arguments p agreed.layouts args old) log_requests
  laid_is =
      ap (λ l. lay old.limit old.next l) (requests-append agreed.layouts (making_arguments p args) meant.log)
      ∙ lay-append old.limit old.next (requests_of agreed.layouts (making_arguments p args)) log_requests

  -- the arguments do not fit
  module _ (full : Full) (over : laid_arguments p agreed.layouts args old ≡ Over full) where
    pub called_unfit : (new : Memory) → IsCalled agreed args calls old (target.Full full) new
    called_unfit new =
        let laid : laid_call p agreed.layouts args calls old ≡ Over full = laid_is ∙ ap (λ l. then_lay old.limit l log_requests) over in
        record {
          ends = subst (λ l. EndsAs (plan_of agreed) true (result_type p.funs p.main) old l meant.end (end_over (target.Full full) new)) (sym laid) refl;
          arguments = λ words left is. absurd (cc is);
        }

    pub counted_unfit : IsCounted agreed code args calls old 0 0
    counted_unfit = subst (λ l. CountsAs agreed code args calls old l 0 0) (sym over) (refl, refl)

  -- they fit, and their words are there
  module _ (m : Memory) (ws : List ℕ) (e : Encoded agreed args old m ws) where
    abbrev run : CallEnd
    run = run_of code calls p.main ws m

    reps_of_main : Reps (plan_of agreed) m true (types_of main_at.0) args ws
    reps_of_main = subst (λ ts. Represent p.types agreed.layouts m true ts args ws) main_types
        (represented_apart p.types agreed.layouts old m (param_types p.funs p.main) args e.blocks e.next old.next e.next ws e.grown e.hold)

    does : EndsAs (plan_of agreed) true main_at.0.result m (lay m.limit m.next log_requests) meant.end run
    does = r.runs p.main main_at.0 main_at.1 true args ws m calls e.grown.good reps_of_main

    pub main_not_trapped : IsNotTrapped run.ended
    main_not_trapped = not_trapped (plan_of agreed) true main_at.0.result run m (lay m.limit m.next log_requests) meant.end does

    pub main_words : length ws ≡ params_in (slice_get code p.main)
    main_words =
        let q = r.heads p.main main_at.0 main_at.1 in
        words_length (plan_of agreed) true m (types_of main_at.0) args ws reps_of_main ∙ sym q.2.params ∙ sym (ap params_in q.1)

    laid_behind : laid_call p agreed.layouts args calls old ≡ all_behind e.blocks (lay m.limit m.next log_requests)
    laid_behind =
        laid_is ∙ ap (λ l. then_lay old.limit l log_requests) e.fits
        ∙ ap (λ k. all_behind e.blocks (lay k e.next log_requests)) (sym e.grown.limit) ∙ ap (λ k. all_behind e.blocks (lay m.limit k log_requests)) (sym e.grown.next)

    ends_right : (end : End) (new : Memory) → end ≡ run.ended → new ≡ run.world.memory
        → EndsAs (plan_of agreed) true (result_type p.funs p.main) old (laid_call p agreed.layouts args calls old) meant.end (end_over end new)
    ends_right end new is same =
        let here = ends_behind (plan_of agreed) true main_at.0.result run old m e.blocks e.next e.grown (lay m.limit m.next log_requests) meant.end does in
        let there = subst (λ l. EndsAs (plan_of agreed) true main_at.0.result old l meant.end run) (sym laid_behind) here in
        let typed_so = subst (λ t. EndsAs (plan_of agreed) true t old (laid_call p agreed.layouts args calls old) meant.end run) (sym main_result) there in
        ends_seen (plan_of agreed) true (result_type p.funs p.main) run old (laid_call p agreed.layouts args calls old) meant.end typed_so end new is same

    -- the memory of a run that returns has what it had before
    later_hold : (words : List ℕ) (left : ℕ) → run.ended ≡ target.Returned words left → HoldArguments agreed args old run.world.memory e.blocks e.next ws
    later_hold words left is =
        let later = returned_extends (plan_of agreed) true main_at.0.result run m (lay m.limit m.next log_requests) meant.end e.grown.good does words left is in
        apart_kept p.types agreed.layouts m run.world.memory later (param_types p.funs p.main) args old.next e.blocks e.next ws e.hold

    pub main_called : (end : End) (new : Memory) → end ≡ run.ended → new ≡ run.world.memory → IsCalled agreed args calls old end new
    main_called end new is same = record {
      ends = ends_right end new is same;
      arguments = λ words left returned blocks next fits.
          let laid : Fits e.blocks e.next ≡ Fits blocks next = sym e.fits ∙ fits in
          let bs : e.blocks ≡ blocks = cc in
          let to : e.next ≡ next = cc in
          let held = later_hold words left (sym is ∙ returned) in (
            ws,
            subst (λ (k : Memory). HoldArguments agreed args old k blocks next ws) (sym same) (
                subst (λ n. HoldArguments agreed args old run.world.memory blocks n ws) to (
                subst (λ xs. HoldArguments agreed args old run.world.memory xs e.next ws) bs held)),
          );
    }

    pub main_counted : (taken switches : ℕ) → taken ≡ run.world.taken → switches ≡ run.world.switches → IsCounted agreed code args calls old taken switches
    main_counted taken switches steps_are switches_are =
        subst (λ l. CountsAs agreed code args calls old l taken switches) (sym e.fits) (ws, m, e.grown, e.hold, steps_are, switches_are)
