-- What was due and how it was delivered give what the program promises.
use Rattle.std.proofs.Common.{◌≡◌, ◌≢◌, ℕ, ◌⊎◌, inl, inr, List, refl, sym, ap, subst, ◌∙◌, arith}
use Rattle.rb_accept.specs.Reading.{Source, handed_out}
use Rattle.rb_command.specs.Command.{Parsed}
use Rattle.rb_command.proofs.OneCommand.{one_meaning}
use Rattle.rb_edge.specs.Faults.{Rose}
use Rattle.rb_lines.specs.Answer.{Due, printed, refused, status_of}
use Rattle.rb_lines.specs.Delivery.{Change, Stood, Delivers, output, output_failed, error_line, error_failed}
use Rattle.rb_lines.specs.Numbers.{status_number}
use Rattle.rb_lines.specs.declared.status.Status.{Status}
use Rattle.rb_lines.specs.declared.status.Status.TheVariants as status
use Rattle.ribbit_tool.specs.Answers.{AnswersCommand, Owes, answered, out_of_memory, files_of}
use Rattle.ribbit_tool.specs.Headline.{GivesHeld}
use Rattle.ribbit_tool.specs.Promise.{Counting, Shows, GivesAnswer, Performs, IsCalm, IsCutOff, LastIsAbsent, IsPromised}
use Rattle.ribbit_tool.proofs.ReadFaults.{fault_of, IsHeld, held_of}

-- no named status is that of a printed text or of a failed write
is_named : (s : Status) → (status_number s ≢ 0) × (status_number s ≢ 8)
is_named status.Syntax = (λ e. omega (arith, e), λ e. omega (arith, e))
is_named status.Meaning = (λ e. omega (arith, e), λ e. omega (arith, e))
is_named status.Layout = (λ e. omega (arith, e), λ e. omega (arith, e))
is_named status.Spent = (λ e. omega (arith, e), λ e. omega (arith, e))
is_named status.Full = (λ e. omega (arith, e), λ e. omega (arith, e))
is_named status.Usage = (λ e. omega (arith, e), λ e. omega (arith, e))
is_named status.Unread = (λ e. omega (arith, e), λ e. omega (arith, e))
is_named status.NoMemory = (λ e. omega (arith, e), λ e. omega (arith, e))
is_named status.Argument = (λ e. omega (arith, e), λ e. omega (arith, e))
is_named status.Limit = (λ e. omega (arith, e), λ e. omega (arith, e))
is_named status.Trap = (λ e. omega (arith, e), λ e. omega (arith, e))
is_named status.TooLarge = (λ e. omega (arith, e), λ e. omega (arith, e))
is_named status.Code = (λ e. omega (arith, e), λ e. omega (arith, e))
is_named status.Image = (λ e. omega (arith, e), λ e. omega (arith, e))

module _ (words : List (List ℕ)) (source : Source) (out err : Change) (steps : Counting) (status : ℕ) where
  -- what is owed is the answer, or the refusal for want of memory
  data Kind (parsed : Parsed) (due : Due) : Type 0 where
    right : AnswersCommand parsed (handed_out source) due → Kind parsed due
    ran_out : status_of due ≡ 9 → Kind parsed due

  kind_of : (parsed : Parsed) (due : Due) → Owes parsed (handed_out source) due → Kind parsed due
  kind_of parsed due (answered h) = right h
  kind_of parsed due (out_of_memory e) = ran_out (ap (λ (d : Due). status_of d) e)

  -- the text was taken and the status is its own; or a write failed
  data Delivery (due : Due) : Type 0 where
    delivered : status ≡ status_of due → Shows due out err → Delivery due
    cut_off : status ≡ 8 → IsCutOff due out err → Delivery due

  delivery_of : (due : Due) → Delivers due out err status → Delivery due
  delivery_of (printed text n) (output is o e) = delivered is (o, e)
  delivery_of (printed text n) (output_failed is o e) = cut_off is (inl (refl, o, e))
  delivery_of (refused s line n) (error_line is o e) = delivered is (o, e)
  delivery_of (refused s line n) (error_failed is o e) = cut_off is (inr ((is_named s).0, o, e))

  not_8 : (due : Due) → status_of due ≢ 8
  not_8 (printed text n) e = omega (arith, e)
  not_8 (refused s line n) e = (is_named s).1 e

  failing : (due : Due) → IsCutOff due out err → Rose out.before out.now ⊎ Rose err.before err.now
  failing due (inl h) = inl h.1.rose
  failing due (inr h) = inr h.2.rose

  module _ (r : Performs words source out err steps status) where
    abbrev parsed : Parsed
    parsed = r.parsed

    abbrev due : Due
    due = r.due

    status_is : status ≢ 8 → status ≡ status_of due
    status_is no_8 = elim (delivery_of due r.delivers) [ cut_off is h ↦ absurd (no_8 is) | delivered is shown ↦ is ]

    -- what is owed is the answer to what was read
    the_answer : status ≢ 8 → status ≢ 9 → AnswersCommand parsed (handed_out source) due
    the_answer no_8 no_9 = elim (kind_of parsed due r.owes) [ right h ↦ h | ran_out e ↦ absurd (no_9 (status_is no_8 ∙ e)) ]

    the_right : status ≢ 8 → status ≢ 9 → GivesAnswer parsed source out err steps status
    the_right no_8 no_9 = elim (delivery_of due r.delivers) [
      | cut_off is h ↦ absurd (no_8 is)
      | delivered is shown ↦
          (due, the_answer no_8 no_9, record { status_is = is; shown = shown; counted = r.counted (λ nine. no_9 (is ∙ nine)) })
    ]

    no_write_fault : Stood out → Stood err → status ≢ 8
    no_write_fault o e eight = elim (delivery_of due r.delivers) [
      | delivered is shown ↦ not_8 due (sym is ∙ eight)
      | cut_off is h ↦ elim (failing due h) [ inl rose ↦ o rose | inr rose ↦ e rose ]
    ]

    the_complete : IsCalm out err status → GivesAnswer parsed source out err steps status
    the_complete calm = the_right (no_write_fault calm.0 calm.1) calm.2

    the_read_fault : status ≡ 7 → Rose source.before source.now ⊎ LastIsAbsent source
    the_read_fault seven =
        let no_8 : status ≢ 8 = λ f. omega (arith, seven, f) in
        let no_9 : status ≢ 9 = λ f. omega (arith, seven, f) in
        fault_of source parsed due r.reads.in_turn (the_answer no_8 no_9) (sym (status_is no_8) ∙ seven)

    the_write_fault : status ≡ 8 → (d : Due) × Owes parsed (handed_out source) d × IsCutOff d out err
    the_write_fault eight = elim (delivery_of due r.delivers) [
      | delivered is shown ↦ absurd (not_8 due (sym is ∙ eight))
      | cut_off is h ↦ (due, r.owes, h)
    ]

    all_held : IsCalm out err status → IsHeld source (files_of parsed)
    all_held calm = held_of source parsed due r.reads.in_turn (the_answer (no_write_fault calm.0 calm.1) calm.2)

  pub promised : Performs words source out err steps status → IsPromised words source out err steps status
  promised r = record {
    parsed = r.parsed;
    meant = r.meant;
    reads = r.reads;
    right = the_right r;
    complete = the_complete r;
    read_fault = the_read_fault r;
    write_fault = the_write_fault r;
  }

  pub gives_held : Performs words source out err steps status → GivesHeld words source out err status
  gives_held r other meant file limit one bytes told held short stood calm =
      let same : r.parsed ≡ other = one_meaning words r.parsed other r.meant meant in
      subst (λ (fs : List (List ℕ × ℕ)). IsHeld source fs) (ap (λ (p : Parsed). files_of p) same ∙ one) (all_held r calm) bytes told held short stood
