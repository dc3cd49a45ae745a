-- What was read of the files of a command, where the answer is due to it.
use Rattle.std.proofs.Common.{◌≡◌, ◌≢◌, ℕ, ◌+◌, ◌≤◌, ◌⊎◌, inl, inr, List, [], ◌∷◌, ◌++◌, length, refl, sym, ap, subst, ◌∙◌, arith, length-append, IsTrue, Option, Some, Ok, Err}
use Rattle.rb_accept.specs.Opening.{AcceptsFirst, Following, Opens, ReadsImage, accepted, turned_down}
use Rattle.rb_accept.specs.Reading.{Source, IsReading, AreInTurn, ReadsOne, unread, within, too_long, not_read, Gave, handed_out, whole, file_limit, code_limit, image_limit}
use Rattle.rb_accept.proofs.NotUnread.{refused_other, spells_other}
use Rattle.rb_accept.proofs.ReadLaws.{some_same}
use Rattle.rb_command.specs.Command.{Parsed, check, layout, compile, run, image, count, gen, genrun, exec, value, peek}
use Rattle.rb_core.specs.Typing.{result_type}
use Rattle.rb_core.specs.declared.program.Program.{Program}
use Rattle.rb_edge.specs.Faults.{Rose}
use Rattle.rb_edge.specs.History.{Reading, going, failed}
use Rattle.rb_edge.specs.Whole.{Begins}
use Rattle.rb_image_text.specs.declared.image.Image.{Image}
use Rattle.rb_lines.specs.Answer.{Due, status_of}
use Rattle.ribbit_tool.specs.Answers.{AnswersCommand, files_of}
use Rattle.ribbit_tool.specs.Check.{ChecksFile}
use Rattle.ribbit_tool.specs.Compiling.{CompilesFile}
use Rattle.ribbit_tool.specs.Count.{CountsFile}
use Rattle.ribbit_tool.specs.Exec.{Executes}
use Rattle.ribbit_tool.specs.Generate.{generated_file}
use Rattle.ribbit_tool.specs.Image.{ImagesFile}
use Rattle.ribbit_tool.specs.Layout.{LaysOutFile}
use Rattle.ribbit_tool.specs.Peek.{Peeks}
use Rattle.ribbit_tool.specs.Promise.{LastIsAbsent}
use Rattle.ribbit_tool.specs.Run.{RunsFile}
use Rattle.ribbit_tool.specs.Value.{IsDueToImage}
use Rattle.ribbit_tool.proofs.NotUnread.{checks_other, lays_out_other, compiles_other, runs_other, images_other, counts_other, executes_other, back_other, part_other}

module _ (source : Source) where
  abbrev rs : List Reading
  rs = handed_out source

  -- One file --------------------------------------------------------------------------------

  module _ (name : List ℕ) (limit : ℕ) (Then : List ℕ → Due → Type 0) (due : Due) (turn : AreInTurn source ((name, limit) ∷ []) rs) where
    abbrev read_as : List ℕ → (r : Reading) → rs ≡ r ∷ [] → IsReading source name limit r
    read_as bytes r is = (subst (λ (xs : List Reading). AreInTurn source ((name, limit) ∷ []) xs) is turn).0

    -- a file that was not read was missing, or the source failed
    pub one_missing : ((bytes : List ℕ) → Then bytes due → status_of due ≢ 7) → ReadsOne name limit Then rs due → status_of due ≡ 7
        → Rose source.before source.now ⊎ LastIsAbsent source
    one_missing other (unread (too_long bytes long is e)) seven = let eleven = ap (λ (d : Due). status_of d) e in absurd (omega (arith, seven, eleven))
    one_missing other (within bytes later is short h) seven = absurd (other bytes h.1 seven)
    one_missing other (unread (not_read bytes is e)) seven =
        let read = read_as bytes (record { name = name; bytes = bytes; course = failed }) is in
        elim (read.cause refl) [
          | inl rose ↦ inl rose
          | inr gone ↦
              let nothing : bytes ≡ [] = subst (λ (o : Option (List ℕ)). Begins o bytes) gone.1 (read.front gone.0) in
              inr (record { told = gone.0; name = name; nothing = gone.1; earlier = []; last = is ∙ ap (λ (bs : List ℕ). record { name = name; bytes = bs; course = failed } ∷ []) nothing })
        ]

    -- a file that is held was read
    pub one_held : ReadsOne name limit Then rs due → (bytes : List ℕ) → IsTrue source.tells → source.held name ≡ Some bytes → length bytes ≤ limit
        → (Rose source.before source.now → ⊥) → Gave source name bytes
    one_held (unread (not_read part is e)) bytes told held short calm =
        let read = read_as part (record { name = name; bytes = part; course = failed }) is in
        elim (read.cause refl) [ inl rose ↦ absurd (calm rose) | inr gone ↦ absurd (cc (sym held ∙ gone.1)) ]
    one_held (unread (too_long part long is e)) bytes told held short calm =
        let read = read_as part (record { name = name; bytes = part; course = going }) is in
        let front : Begins (Some bytes) part = subst (λ (o : Option (List ℕ)). Begins o part) held (read.front told) in
        let all : length bytes ≡ length part + length front.0 = ap (λ (xs : List ℕ). length xs) front.1 ∙ length-append part front.0 in
        absurd (omega (arith, all, long, short))
    one_held (within part later is known h) bytes told held short calm =
        let one : rs ≡ whole name part ∷ [] = is ∙ ap (λ (xs : List Reading). whole name part ∷ xs) h.0 in
        let read = read_as part (whole name part) one in
        one ∙ ap (λ (xs : List ℕ). whole name xs ∷ []) (some_same (sym (read.all told refl) ∙ held))

  -- A file and its image ----------------------------------------------------------------------

  -- the reading that failed is the last one
  missing_as : (name bytes : List ℕ) (limit : ℕ) (earlier : List Reading) → rs ≡ earlier ++ record { name = name; bytes = bytes; course = failed } ∷ []
      → IsReading source name limit (record { name = name; bytes = bytes; course = failed }) → Rose source.before source.now ⊎ LastIsAbsent source
  missing_as name bytes limit earlier is read =
      elim (read.cause refl) [
        | inl rose ↦ inl rose
        | inr gone ↦
            let nothing : bytes ≡ [] = subst (λ (o : Option (List ℕ)). Begins o bytes) gone.1 (read.front gone.0) in
            inr (record {
              told = gone.0;
              name = name;
              nothing = gone.1;
              earlier = earlier;
              last = is ∙ ap (λ (bs : List ℕ). earlier ++ record { name = name; bytes = bs; course = failed } ∷ []) nothing;
            })
      ]

  module _ (file second : List ℕ) (Then : Following) (due : Due) (turn : AreInTurn source ((file, file_limit) ∷ (second, image_limit) ∷ []) rs)
      (other : (p : Program) (i : Image) → Then p i due → status_of due ≢ 7) (seven : status_of due ≡ 7) where
    turns : (xs : List Reading) → rs ≡ xs → AreInTurn source ((file, file_limit) ∷ (second, image_limit) ∷ []) xs
    turns xs is = subst (λ (ys : List Reading). AreInTurn source ((file, file_limit) ∷ (second, image_limit) ∷ []) ys) is turn

    image_missing : (bytes : List ℕ) (later : List Reading) → rs ≡ whole file bytes ∷ later → (p : Program) → ReadsImage second (Then p) later due
        → Rose source.before source.now ⊎ LastIsAbsent source
    image_missing bytes later is p (unread (too_long text long k e)) = let eleven = ap (λ (d : Due). status_of d) e in absurd (omega (arith, seven, eleven))
    image_missing bytes later is p (unread (not_read text k e)) =
        let all = is ∙ ap (λ (xs : List Reading). whole file bytes ∷ xs) k in
        missing_as second text image_limit (whole file bytes ∷ []) all (turns _ all).1.0
    image_missing bytes later is p (within text rest k short h) = absurd (spells_other text (Then p) due (other p) h.1 seven)

    file_first : (bytes : List ℕ) (later : List Reading) → rs ≡ whole file bytes ∷ later
        → AcceptsFirst bytes (λ p xs d. ReadsImage second (Then p) xs d) later due → Rose source.before source.now ⊎ LastIsAbsent source
    file_first bytes later is (turned_down h none) = absurd (refused_other bytes due h seven)
    file_first bytes later is (accepted p a h) = image_missing bytes later is p h

    pub two_missing : Opens file second Then rs due → Rose source.before source.now ⊎ LastIsAbsent source
    two_missing (unread (too_long bytes long is e)) = let eleven = ap (λ (d : Due). status_of d) e in absurd (omega (arith, seven, eleven))
    two_missing (unread (not_read bytes is e)) = missing_as file bytes file_limit [] is (turns _ is).0
    two_missing (within bytes later is short h) = file_first bytes later is h

  -- Each command ----------------------------------------------------------------------------

  pub fault_of : (parsed : Parsed) (due : Due) → AreInTurn source (files_of parsed) rs → AnswersCommand parsed rs due → status_of due ≡ 7
      → Rose source.before source.now ⊎ LastIsAbsent source
  fault_of (Ok (check file)) due turn h seven = one_missing file file_limit (λ bs d. ChecksFile bs d) due turn (λ bs k. checks_other bs due k) h seven
  fault_of (Ok (layout file)) due turn h seven = one_missing file file_limit (λ bs d. LaysOutFile bs d) due turn (λ bs k. lays_out_other bs due k) h seven
  fault_of (Ok (compile file)) due turn h seven = one_missing file file_limit (λ bs d. CompilesFile bs d) due turn (λ bs k. compiles_other bs due k) h seven
  fault_of (Ok (run file limits values)) due turn h seven = one_missing file file_limit (λ bs d. RunsFile limits values bs d) due turn (λ bs k. runs_other bs due limits values k) h seven
  fault_of (Ok (image file limits values)) due turn h seven = one_missing file file_limit (λ bs d. ImagesFile limits values bs d) due turn (λ bs k. images_other bs due limits values k) h seven
  fault_of (Ok (count file limits values)) due turn h seven = one_missing file file_limit (λ bs d. CountsFile limits values bs d) due turn (λ bs k. counts_other bs due limits values k) h seven
  fault_of (Ok (gen functions)) due turn h seven = let zero = ap (λ (d : Due). status_of d) h in absurd (omega (arith, seven, zero))
  fault_of (Ok (genrun functions limits)) due turn h seven = absurd (counts_other (generated_file functions) due limits [] h seven)
  fault_of (Ok (exec code function limits words)) due turn h seven =
      one_missing code code_limit (λ bs d. Executes function limits words bs d) due turn (λ bs k. executes_other bs due function limits words k) h seven
  fault_of (Ok (value file second)) due turn h seven =
      two_missing file second (λ p i d. IsDueToImage p (result_type p.funs p.main) i d) due turn (λ p i k. back_other p (result_type p.funs p.main) i due k) seven h
  fault_of (Ok (peek file second path)) due turn h seven =
      two_missing file second (λ p i d. Peeks p (result_type p.funs p.main) path i d) due turn (λ p i k. part_other p (result_type p.funs p.main) path i due k) seven h
  fault_of (Err word) due turn h seven = let six = ap (λ (d : Due). status_of d) h in absurd (omega (arith, seven, six))

  -- a file that is the only one
  abbrev pub IsHeld : List (List ℕ × ℕ) → Type 0
  IsHeld [] = Unit {0}
  IsHeld (file ∷ other ∷ files) = Unit {0}
  IsHeld ((name, limit) ∷ []) = (bytes : List ℕ) → IsTrue source.tells → source.held name ≡ Some bytes → length bytes ≤ limit
      → (Rose source.before source.now → ⊥) → Gave source name bytes

  pub held_of : (parsed : Parsed) (due : Due) → AreInTurn source (files_of parsed) rs → AnswersCommand parsed rs due → IsHeld (files_of parsed)
  held_of (Ok (check file)) due turn h = one_held file file_limit (λ bs d. ChecksFile bs d) due turn h
  held_of (Ok (layout file)) due turn h = one_held file file_limit (λ bs d. LaysOutFile bs d) due turn h
  held_of (Ok (compile file)) due turn h = one_held file file_limit (λ bs d. CompilesFile bs d) due turn h
  held_of (Ok (run file limits values)) due turn h = one_held file file_limit (λ bs d. RunsFile limits values bs d) due turn h
  held_of (Ok (image file limits values)) due turn h = one_held file file_limit (λ bs d. ImagesFile limits values bs d) due turn h
  held_of (Ok (count file limits values)) due turn h = one_held file file_limit (λ bs d. CountsFile limits values bs d) due turn h
  held_of (Ok (gen functions)) due turn h = tt
  held_of (Ok (genrun functions limits)) due turn h = tt
  held_of (Ok (exec code function limits words)) due turn h = one_held code code_limit (λ bs d. Executes function limits words bs d) due turn h
  held_of (Ok (value file second)) due turn h = tt
  held_of (Ok (peek file second path)) due turn h = tt
  held_of (Err word) due turn h = tt
