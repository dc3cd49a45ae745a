-- The status of a read fault is due to a file that was not read, and to nothing else that a command does.
use Rattle.std.proofs.Common.{◌≢◌, ℕ, ◌==◌, Bool, true, false, if◌then◌else◌, List, length, arith, Option, Some, None, slice_get}
use Rattle.rb_accept.specs.Accepting.{turned_down, accepted}
use Rattle.rb_accept.proofs.NotUnread.{other_by, refused_other, accepts_other, misfit_other, fault_other}
use Rattle.rb_bytes.specs.Memory.{empty_memory}
use Rattle.rb_command.specs.Command.{Limits}
use Rattle.rb_core.specs.declared.program.Program.{Program}
use Rattle.rb_core.specs.declared.types.Ty.{Ty}
use Rattle.rb_core.specs.declared.value.Value.{Value}
use Rattle.rb_image_text.specs.declared.image.Image.{Image}
use Rattle.rb_image_text.specs.MemoryImages.{memory_image}
use Rattle.rb_image_text.specs.Text.{image_text}
use Rattle.rb_layout.specs.declared.agreed.LaidOut.{LaidOut}
use Rattle.rb_lines.specs.Answer.{Due, refusal, status_of}
use Rattle.rb_lines.specs.Lines.{count_line, words_line}
use Rattle.rb_lines.specs.declared.status.Status.TheVariants as status
use Rattle.rb_machine.specs.Runs.{params_in}
use Rattle.rb_rel.specs.Answers as answer
use Rattle.rb_target.specs.declared.code.CodeFun.{CodeFun}
use Rattle.rb_target.specs.Meaning.{run_of}
use Rattle.rb_target.specs.declared.outcome.End.{End}
use Rattle.rb_target.specs.declared.outcome.End.TheVariants as end
use Rattle.ribbit_tool.specs.Check.{ChecksFile}
use Rattle.ribbit_tool.specs.Compiling.{CompilesFile}
use Rattle.ribbit_tool.specs.Count.{CountsFile, count_text}
use Rattle.ribbit_tool.specs.Exec.{Executes, executed, faulty, no_code, end_due, outcome_due, named_due, fun_named}
use Rattle.ribbit_tool.specs.Image.{ImagesFile}
use Rattle.ribbit_tool.specs.Layout.{LaysOutFile}
use Rattle.ribbit_tool.specs.Peek.{Peeks, rooted_at, found, stopped}
use Rattle.ribbit_tool.specs.Run.{RunsFile, answer_due, source_answer, value_line, whole_answer, PreparesFile, misfit, prepared}
use Rattle.ribbit_tool.specs.Value.{IsDueToImage, holds, large, unsound}

-- Calls of `main` ---------------------------------------------------------------------------

prepares_other : (words : List (List ℕ)) (bytes : List ℕ) (Then : LaidOut → List CodeFun → List Value → Due → Type 0) (due : Due)
    → ((agreed : LaidOut) (code : List CodeFun) (args : List Value) → Then agreed code args due → status_of due ≢ 7)
    → PreparesFile words bytes Then due → status_of due ≢ 7
prepares_other words bytes Then due other (turned_down h) = refused_other bytes due h
prepares_other words bytes Then due other (accepted p a (misfit m)) = misfit_other p words due m
prepares_other words bytes Then due other (accepted p a (prepared agreed laid code args ready spells h)) = other agreed code args h

answer_other : (shown : Value → List ℕ) (calls : ℕ) (a : answer.Answer) (steps : ℕ) → status_of (answer_due shown calls a steps) ≢ 7
answer_other shown calls (answer.Shown v) steps e = omega (arith, e)
answer_other shown calls answer.Spent steps e = omega (arith, e)
answer_other shown calls (answer.Full f) steps e = omega (arith, e)
answer_other shown calls answer.TooLarge steps e = omega (arith, e)

-- Code texts --------------------------------------------------------------------------------

choice_other : (b : Bool) (x y : Due) → status_of x ≢ 7 → status_of y ≢ 7 → status_of (if b then x else y) ≢ 7
choice_other true x y h k = h
choice_other false x y h k = k

end_other : (calls : ℕ) (x : End) (steps : ℕ) → status_of (end_due words_line calls x steps) ≢ 7
end_other calls (end.Returned words left) steps e = omega (arith, e)
end_other calls end.Spent steps e = omega (arith, e)
end_other calls (end.Full full) steps e = omega (arith, e)
end_other calls (end.Trapped trap) steps e = omega (arith, e)

named_other : (funs : List CodeFun) (name : List ℕ) (limits : Limits) (words : List ℕ) (o : Option ℕ) → status_of (named_due funs name limits words o) ≢ 7
named_other funs name limits words None = λ e. omega (arith, e)
named_other funs name limits words (Some f) =
    let o = run_of funs limits.calls f words (empty_memory limits.region) in
    choice_other (length words == params_in (slice_get funs f)) (outcome_due o limits.calls)
    (refusal status.Argument (count_line (params_in (slice_get funs f)) (length words))) (end_other limits.calls o.ended o.world.taken) (λ e. omega (arith, e))

-- Images ------------------------------------------------------------------------------------

pub back_other : (p : Program) (ty : Ty) (i : Image) (due : Due) → IsDueToImage p ty i due → status_of due ≢ 7
back_other p ty i due (holds v h few is) = other_by due _ is (λ e. omega (arith, e))
back_other p ty i due (large v h more is) = other_by due _ is (λ e. omega (arith, e))
back_other p ty i due (unsound f h is) = other_by due _ is (fault_other f)

pub part_other : (p : Program) (ty : Ty) (path : List ℕ) (i : Image) (due : Due) → Peeks p ty path i due → status_of due ≢ 7
part_other p ty path i due (found part is h) = back_other p part.ty (rooted_at i part) due h
part_other p ty path i due (stopped f h is) = other_by due _ is (fault_other f)

-- Each command ------------------------------------------------------------------------------

module _ (bytes : List ℕ) (due : Due) where
  pub checks_other : ChecksFile bytes due → status_of due ≢ 7
  checks_other = accepts_other bytes _ due (λ p a h. other_by due _ h.shown (λ e. omega (arith, e)))

  pub lays_out_other : LaysOutFile bytes due → status_of due ≢ 7
  lays_out_other = accepts_other bytes _ due (λ p a is. other_by due _ is (λ e. omega (arith, e)))

  pub compiles_other : CompilesFile bytes due → status_of due ≢ 7
  compiles_other = accepts_other bytes _ due (λ p a h. other_by due _ h.shown (λ e. omega (arith, e)))

  pub runs_other : (limits : Limits) (values : List (List ℕ)) → RunsFile limits values bytes due → status_of due ≢ 7
  runs_other limits values = prepares_other values bytes _ due (λ agreed code args h. other_by due _ h.shown (answer_other (value_line agreed.covered.program) limits.calls (source_answer agreed.covered.program agreed.layouts limits args) h.taken))

  pub images_other : (limits : Limits) (values : List (List ℕ)) → ImagesFile limits values bytes due → status_of due ≢ 7
  images_other limits values = prepares_other values bytes _ due (λ agreed code args h. other_by due _ h.shown (answer_other (λ v. image_text (memory_image h.words h.memory)) limits.calls (whole_answer agreed.covered.program agreed.layouts limits args) h.taken))

  pub counts_other : (limits : Limits) (values : List (List ℕ)) → CountsFile limits values bytes due → status_of due ≢ 7
  counts_other limits values = prepares_other values bytes _ due (λ agreed code args h. other_by due _ h.shown (answer_other (count_text agreed.covered.program h.tally) limits.calls (source_answer agreed.covered.program agreed.layouts limits args) h.taken))

  pub executes_other : (name : List ℕ) (limits : Limits) (words : List ℕ) → Executes name limits words bytes due → status_of due ≢ 7
  executes_other name limits words (executed funs valid is shown) = other_by due _ shown (named_other funs name limits words (fun_named funs name))
  executes_other name limits words (faulty funs text fault first shown) = other_by due _ shown (λ e. omega (arith, e))
  executes_other name limits words (no_code at stops shown) = other_by due _ shown (λ e. omega (arith, e))
