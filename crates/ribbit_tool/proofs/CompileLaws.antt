-- What the program promises gives the headline of `compile`, and `exec` of what it writes does as the source.
use Rattle.std.proofs.Common.{◌≡◌, ℕ, ◌+◌, List, [], ◌∷◌, length, length-append, Bool, Some, sym, ap, subst, ◌∙◌, Ok}
use Rattle.std.proofs.lemmas.Bool.{eq-eqb}
use Rattle.std.specs.Prelude.{slice_get, if◌then◌else◌}
use Rattle.rb_accept.specs.Accepting.{IsAccepted, turned_down, accepted}
use Rattle.rb_accept.specs.Reading.{Source, handed_out, file_limit}
use Rattle.rb_accept.proofs.OneProgram.{one_program, accepted_unrefused}
use Rattle.rb_bytes.proofs.MemoryLemmas.{empty_good}
use Rattle.rb_bytes.specs.Memory.{Memory, empty_memory}
use Rattle.rb_command.specs.Command.{Parsed, compile}
use Rattle.rb_command.proofs.OneCommand.{one_meaning}
use Rattle.rb_compile.specs.Plans.{plan_of}
use Rattle.rb_core.specs.declared.program.Program.{Program}
use Rattle.rb_core.specs.declared.types.Ty.{Ty}
use Rattle.rb_core.specs.declared.value.Value.{Value}
use Rattle.rb_fragment.proofs.Represented.{Rep-count}
use Rattle.rb_fragment.specs.Plan.{Plan, Reps, types_of, words_needed, words_needed_by}
use Rattle.rb_layout.specs.Flattening.{flat_layouts}
use Rattle.rb_lines.specs.Answer.{Due, refusal}
use Rattle.rb_lines.specs.Delivery.{Change}
use Rattle.rb_lines.specs.Lines.{count_line}
use Rattle.rb_lines.specs.declared.status.Status.TheVariants.{Argument}
use Rattle.rb_machine.specs.Runs.{params_in}
use Rattle.rb_target.specs.Meaning.{run_of}
use Rattle.ribbit_tool.specs.Answers.{AnswersCommand}
use Rattle.ribbit_tool.specs.Compiling.{CompilesProgram, CompilesFile}
use Rattle.ribbit_tool.specs.Exec.{fun_named, named_due, outcome_due}
use Rattle.ribbit_tool.specs.Headlines.{SaysCode, CompileHeadline}
use Rattle.ribbit_tool.specs.Laws.{CompiledTextsRun}
use Rattle.ribbit_tool.specs.Promise.{Counting, GivesDue, IsPromised}
use Rattle.ribbit_tool.proofs.Executing.{executed_themselves}
use Rattle.ribbit_tool.proofs.HeadlineLaws.{follows}
use Rattle.ribbit_tool.proofs.Naming.{HaveNames, first_of_name}

-- The command -------------------------------------------------------------------------------

module _ (bytes : List ℕ) (p : Program) (a : IsAccepted bytes p) (out err : Change) (steps : Counting) (status : ℕ) where
  -- by another proof that the file is accepted
  said_as : (q : Program) → p ≡ q → (due : Due) → CompilesProgram q due → GivesDue due out err steps status → SaysCode p out err status
  said_as q same due h given =
      let g = subst (λ (d : Due). GivesDue d out err steps status) h.shown given in
      record {
        agreed = h.agreed;
        laid = record { program = h.laid.program ∙ sym same; layouts = h.laid.layouts ∙ ap (λ (x : Program). flat_layouts x) (sym same) };
        code = h.code;
        compiled = h.compiled;
        status_is = g.status_is;
        text = g.shown.0;
        no_line = g.shown.1;
      }

  said : (due : Due) → CompilesFile bytes due → GivesDue due out err steps status → SaysCode p out err status
  said due (turned_down h) given = absurd (accepted_unrefused bytes p due a h)
  said due (accepted q b h) given = said_as q (one_program bytes p q a b) due h given

pub compile_headlined : (words : List (List ℕ)) (source : Source) (out err : Change) (steps : Counting) (status : ℕ) → IsPromised words source out err steps status
    → CompileHeadline words source out err status
compile_headlined words source out err steps status r file written bytes gave p a calm =
    let parsed : r.parsed ≡ Ok (compile file) = one_meaning words r.parsed (Ok (compile file)) r.meant written in
    let given = r.complete calm in
    let due = given.0 in
    let owed : AnswersCommand (Ok (compile file)) (handed_out source) due = subst (λ (x : Parsed). AnswersCommand x (handed_out source) due) parsed given.1 in
    said bytes p a out err steps status due (follows file bytes file_limit (λ bs d. CompilesFile bs d) (handed_out source) due gave owed) given.2

-- What it writes ----------------------------------------------------------------------------

-- words that represent values are as many as the types have
as_many_words : (plan : Plan) (clean : Bool) (m : Memory) (ts : List Ty) (vs : List Value) (ws : List ℕ) → Reps plan m clean ts vs ws → length ws ≡ words_needed_by plan ts
as_many_words plan clean m [] [] ws r = ap length r
as_many_words plan clean m [] (v ∷ vs) ws r = absurd r
as_many_words plan clean m (t ∷ ts) [] ws r = absurd r
as_many_words plan clean m (t ∷ ts) (v ∷ vs) ws r =
    let first : length r.0 ≡ words_needed plan t = Rep-count plan clean m r.3 in
    let rest = as_many_words plan clean m ts vs r.1 r.4 in
    ap length r.2 ∙ length-append r.0 r.1 ∙ ap (λ n. n + length r.1) first ∙ ap (λ n. words_needed plan t + n) rest

pub compiled_texts_run : CompiledTextsRun
compiled_texts_run agreed typed code compiled g f is limits low high clean args words reps due executes =
    let plan = plan_of agreed in
    let m = empty_memory limits.region in
    let run = run_of code limits.calls g words m in
    let head = compiled.refines.heads g f is in
    let names : HaveNames agreed.covered.program.funs code = λ h x at. let own = compiled.refines.heads h x at in (own.0, own.1, own.2.name) in
    let first : fun_named code f.name ≡ Some g = first_of_name agreed.covered.program.funs code names typed.numbered.function_names g f is in
    let wanted = params_in (slice_get code g) in
    let many : length words ≡ wanted = as_many_words plan clean m (types_of f) args words reps ∙ sym (ap params_in head.1 ∙ head.2.params) in
    let own : Due = outcome_due run limits.calls in
    let other : Due = refusal Argument (count_line wanted (length words)) in (
      run,
      executed_themselves code compiled.valid f.name limits words due executes ∙ ap (named_due code f.name limits words) first
          ∙ ap (λ (b : Bool). if b then own else other) (eq-eqb (length words) wanted many),
      compiled.refines.runs g f is clean args words m limits.calls (empty_good limits.region low high) reps,
    )
