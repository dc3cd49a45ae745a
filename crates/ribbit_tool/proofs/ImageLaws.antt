-- What the program promises gives the headlines of images, of counts and of generated files.
use Rattle.std.proofs.Common.{◌≡◌, ℕ, List, [], true, refl, ap, sym, subst, ◌∙◌, Ok}
use Rattle.rb_accept.specs.Reading.{Source, handed_out}
use Rattle.rb_bytes.specs.Growth.{AreWhole}
use Rattle.rb_bytes.specs.Memory.{Memory, empty_memory}
use Rattle.rb_command.specs.Command.{Limits, Parsed, image, count, gen, genrun}
use Rattle.rb_command.proofs.OneCommand.{one_meaning}
use Rattle.rb_compile.specs.Plans.{plan_of}
use Rattle.rb_compile.specs.Refining.{EndsAs}
use Rattle.rb_core.specs.Meaning.{call_of}
use Rattle.rb_core.specs.Typing.{result_type}
use Rattle.rb_core.specs.declared.outcome.SourceEnd.{SourceEnd}
use Rattle.rb_core.specs.declared.outcome.SourceEnd.TheVariants.{Done, Spent}
use Rattle.rb_core.specs.declared.program.Program.{Program}
use Rattle.rb_core.specs.declared.value.Value.{Value}
use Rattle.rb_image_text.specs.MemoryImages.{memory_image}
use Rattle.rb_image_text.specs.Text.{image_text}
use Rattle.rb_layout.specs.Flattening.{flat_layouts}
use Rattle.rb_layout.specs.declared.agreed.LaidOut.{LaidOut}
use Rattle.rb_layout.specs.declared.layout.Layout.{Layout}
use Rattle.rb_lines.specs.Answer.{Due, printed}
use Rattle.rb_lines.specs.Delivery.{Change}
use Rattle.rb_rel.specs.Answers as answer
use Rattle.rb_rel.specs.Answers.{laid_call}
use Rattle.rb_rel.specs.Placing.{Laid, Fits, Over}
use Rattle.rb_rel.specs.Relation.{IsCleanlyRepresented}
use Rattle.rb_run.specs.Calling.{IsCalled, end_over}
use Rattle.rb_target.specs.declared.code.CodeFun.{CodeFun}
use Rattle.rb_target.specs.declared.outcome.End.{End}
use Rattle.ribbit_tool.specs.Answers.{AnswersCommand}
use Rattle.ribbit_tool.specs.Count.{Counts, IsMainTally, count_text}
use Rattle.ribbit_tool.specs.Exec.{end_due}
use Rattle.ribbit_tool.specs.Generate.{generated_file}
use Rattle.ribbit_tool.specs.Headlines.{SaysImage, ImageHeadline, SaysCount, CountHeadline, GenerateHeadline}
use Rattle.ribbit_tool.specs.Image.{Images, IsImageOf, ShowWhole}
use Rattle.ribbit_tool.specs.Promise.{Counting, GivesDue, IsPromised}
use Rattle.ribbit_tool.specs.Run.{answer_due, source_answer, answer_of_any_size, whole_answer}
use Rattle.ribbit_tool.proofs.HeadlineLaws.{Ready, ready_as, of_calls, says}

-- Images ------------------------------------------------------------------------------------

-- a call of `main` over a fresh region that ended so and left this memory shows what the source answers
module _ (agreed : LaidOut) (args : List Value) (limits : Limits) (end : End) (m : Memory)
    (called : IsCalled agreed args limits.calls (empty_memory limits.region) end m) (taken : ℕ) where
  abbrev p : Program
  p = agreed.covered.program

  abbrev due_to : End → Due
  due_to x = end_due (λ words. image_text (memory_image words m)) limits.calls x taken

  pub record ShowsEnd (a : answer.Answer) : Type 0 where
    pub words : List ℕ
    pub show : (v : Value) → a ≡ answer.Shown v → IsImageOf p agreed.layouts limits args v words m
    pub due : due_to end ≡ answer_due (λ v. image_text (memory_image words m)) limits.calls a taken

  at_end : (l : Laid) (e : SourceEnd) → laid_call p agreed.layouts args limits.calls (empty_memory limits.region) ≡ l
      → EndsAs (plan_of agreed) true (result_type p.funs p.main) (empty_memory limits.region) l e (end_over end m) → ShowsEnd (answer_of_any_size l e)
  at_end (Over full) e laid h = record { words = []; show = λ v is. absurd (cc is); due = ap due_to h }
  at_end (Fits blocks next) Spent laid h = record { words = []; show = λ v is. absurd (cc is); due = ap due_to h }
  at_end (Fits blocks next) (Done v left) laid (words, is, grown, represents) =
      record {
        words = words;
        show = λ u same.
            let alike : v ≡ u = cc in
            record {
              asked = laid ∙ ap (λ bs. Fits bs next) (sym grown.behind) ∙ ap (λ n. Fits m.blocks n) (sym grown.next);
              whole = subst (λ (bs : List (ℕ × ℕ)). AreWhole m bs) (sym grown.behind) grown.whole;
              good = grown.good;
              root = subst (λ (x : Value). IsCleanlyRepresented p.types agreed.layouts m (result_type p.funs p.main) x words) alike represents;
              given = λ own to fits. called.arguments words left is own to fits;
            };
        due = ap due_to is;
      }

  pub shows_end : ShowsEnd (whole_answer p agreed.layouts limits args)
  shows_end = at_end (laid_call p agreed.layouts args limits.calls (empty_memory limits.region)) (call_of p p.main limits.calls args).end refl called.ends

abbrev Imaged : Limits → LaidOut → List CodeFun → List Value → Due → Type 0
Imaged limits agreed code args due = Images agreed code args limits due

image_says : (p : Program) (args : List Value) (limits : Limits) (due : Due) → Ready (Imaged limits) p args due
    → (out err : Change) (steps : Counting) (status : ℕ) → GivesDue due out err steps status → SaysImage p args limits out err status
image_says p args limits due r out err steps status g =
    let i = r.follows in
    let shown : Value → List ℕ = λ v. image_text (memory_image i.words i.memory) in
    let Is : Program → List Layout → Type 0 = λ q ls. ShowWhole q ls limits args i.words i.memory × (due ≡ answer_due shown limits.calls (whole_answer q ls limits args) i.taken) in
    let is : Is p (flat_layouts p) = subst (λ (ls : List Layout). Is p ls) r.laid.layouts (subst (λ (q : Program). Is q r.agreed.layouts) r.laid.program (i.show, i.shown)) in
    record {
      words = i.words;
      memory = i.memory;
      show = is.0;
      says = says shown limits out err steps status (whole_answer p (flat_layouts p) limits args) i.taken (subst (λ (d : Due). GivesDue d out err steps status) is.1 g);
    }

pub image_headlined : (words : List (List ℕ)) (source : Source) (out err : Change) (steps : Counting) (status : ℕ) → IsPromised words source out err steps status
    → ImageHeadline words source out err status
image_headlined = of_calls image Imaged SaysImage (λ file limits values readings due h. h) image_says

-- Counts ------------------------------------------------------------------------------------

abbrev Counted : Limits → LaidOut → List CodeFun → List Value → Due → Type 0
Counted limits agreed code args due = Counts agreed code args limits due

count_says : (p : Program) (args : List Value) (limits : Limits) (due : Due) → Ready (Counted limits) p args due
    → (out err : Change) (steps : Counting) (status : ℕ) → GivesDue due out err steps status → SaysCount p args limits out err status
count_says p args limits due r out err steps status g =
    let i = r.follows in
    let Is : Program → List Layout → Type 0 = λ q ls. IsMainTally q ls limits args i.tally × (due ≡ answer_due (count_text q i.tally) limits.calls (source_answer q ls limits args) i.taken) in
    let is : Is p (flat_layouts p) = subst (λ (ls : List Layout). Is p ls) r.laid.layouts (subst (λ (q : Program). Is q r.agreed.layouts) r.laid.program (i.tallied, i.shown)) in
    record {
      tally = i.tally;
      tallied = is.0;
      done = record { agreed = r.agreed; laid = r.laid; code = r.code; compiled = r.compiled; steps = i.taken; counted = i.counted };
      says = says (count_text p i.tally) limits out err steps status (source_answer p (flat_layouts p) limits args) i.taken (subst (λ (d : Due). GivesDue d out err steps status) is.1 g);
    }

pub count_headlined : (words : List (List ℕ)) (source : Source) (out err : Change) (steps : Counting) (status : ℕ) → IsPromised words source out err steps status
    → CountHeadline words source out err status
count_headlined = of_calls count Counted SaysCount (λ file limits values readings due h. h) count_says

-- Generated files ---------------------------------------------------------------------------

pub generate_headlined : (words : List (List ℕ)) (source : Source) (out err : Change) (steps : Counting) (status : ℕ) → IsPromised words source out err steps status
    → GenerateHeadline words out err status
generate_headlined words source out err steps status r = record {
  text = λ functions written calm.
      let parsed : r.parsed ≡ Ok (gen functions) = one_meaning words r.parsed (Ok (gen functions)) r.meant written in
      let given = r.complete calm in
      let is : given.0 ≡ printed (generated_file functions) 0 = subst (λ (x : Parsed). AnswersCommand x (handed_out source) given.0) parsed given.1 in
      let g = subst (λ (d : Due). GivesDue d out err steps status) is given.2 in (g.status_is, g.shown.0, g.shown.1);
  counts = λ functions limits written p a args spelled calm.
      let parsed : r.parsed ≡ Ok (genrun functions limits) = one_meaning words r.parsed (Ok (genrun functions limits)) r.meant written in
      let given = r.complete calm in
      let owed : AnswersCommand (Ok (genrun functions limits)) (handed_out source) given.0 = subst (λ (x : Parsed). AnswersCommand x (handed_out source) given.0) parsed given.1 in
      count_says p args limits given.0 (ready_as (Counted limits) [] (generated_file functions) p a args spelled given.0 owed) out err steps status given.2;
}
