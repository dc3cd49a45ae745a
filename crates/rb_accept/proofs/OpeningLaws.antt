-- What is due where an image is read after its file, and how the two readings follow each other.
use Rattle.std.proofs.Common.{◌≡◌, ℕ, ◌≤◌, Bool, List, [], ◌∷◌, ◌++◌, length, drop, refl, sym, ap, subst, ◌∙◌, append_assoc, IfOk, IfErr, inl, inr, Option, Result, Ok, Err}
use Rattle.rb_core.specs.declared.program.Program.{Program}
use Rattle.rb_edge.specs.Faults.{Rose}
use Rattle.rb_edge.specs.History.{Reading}
use Rattle.rb_edge.specs.Whole.{Begins}
use Rattle.rb_edge.proofs.FaultLemmas.{Rose-earlier, Rose-later}
use Rattle.rb_image_text.specs.declared.image.Image.{Image}
use Rattle.rb_lines.specs.Answer.{Due}
use Rattle.rb_lines.specs.View.{IsRefusal}
use Rattle.rb_lines.specs.declared.refusal.Refusal.{Refusal}
use Rattle.rb_lines.proofs.Meeting.{refusal_met}
use Rattle.rb_accept.specs.Accepting.{IsAccepted, IsRefused}
use Rattle.rb_accept.specs.Opening.{AcceptsFirst, Following, IsGarbled, IsOpened, Opens, ReadsImage, SpellsImage, accepted, garbled, spelled, turned_down}
use Rattle.rb_accept.specs.Reading.{AreInTurn, HeldFiles, IsReading, IsUnread, ReadsFile, ReadsInTurn, Source, file_limit, handed_out, image_limit, unread, whole, within}
use Rattle.rb_accept.specs.declared.opening.Opened.{Opened}
use Rattle.rb_accept.proofs.Accepted.{is_accepted}
use Rattle.rb_accept.proofs.ReadLaws.{behind}

-- Results ------------------------------------------------------------------------------------

pub both_ok : {A E : Type 0} (r : Result A E) (P Q R : A → Type 0) → IfOk r P → IfOk r Q → ((a : A) → P a → Q a → R a) → IfOk r R
both_ok (Ok a) P Q R h k more = more a h k
both_ok (Err e) P Q R h k more = tt

pub err_met : {A : Type 0} (r : Result A Refusal) (P Q : Due → Type 0) → ((due : Due) → P due → Q due) → IfErr r (IsRefusal P) → IfErr r (IsRefusal Q)
err_met (Ok a) P Q more h = tt
err_met (Err e) P Q more h = refusal_met P Q more e h

-- Whatever follows ---------------------------------------------------------------------------

reads_more : (name : List ℕ) (limit : ℕ) (A B : List ℕ → List Reading → Due → Type 0)
    → ((bytes : List ℕ) (later : List Reading) (d : Due) → A bytes later d → B bytes later d) → (rs : List Reading) (due : Due)
    → ReadsFile name limit A rs due → ReadsFile name limit B rs due
reads_more name limit A B more rs due (unread h) = unread h
reads_more name limit A B more rs due (within bytes later is short h) = within bytes later is short (more bytes later due h)

spells_whatever : (text : List ℕ) (Then : Image → Due → Type 0) (due : Due) → SpellsImage text (λ i d. ⊥) due → SpellsImage text Then due
spells_whatever text Then due (garbled h) = garbled h
spells_whatever text Then due (spelled i is placed h) = absurd h

image_whatever : (image : List ℕ) (Then : Image → Due → Type 0) (rs : List Reading) (due : Due) → ReadsImage image (λ i d. ⊥) rs due → ReadsImage image Then rs due
image_whatever image Then =
    reads_more image image_limit (λ text later d. (later ≡ []) × SpellsImage text (λ i e. ⊥) d) (λ text later d. (later ≡ []) × SpellsImage text Then d)
    (λ text later d h. (h.0, spells_whatever text Then d h.1))

first_whatever : (bytes image : List ℕ) (Then : Following) (rs : List Reading) (due : Due)
    → AcceptsFirst bytes (λ p later d. ReadsImage image (λ i e. ⊥) later d) rs due → AcceptsFirst bytes (λ p later d. ReadsImage image (Then p) later d) rs due
first_whatever bytes image Then rs due (turned_down h none) = turned_down h none
first_whatever bytes image Then rs due (accepted p a h) = accepted p a (image_whatever image (Then p) rs due h)

pub opens_whatever : (file image : List ℕ) (Then : Following) (rs : List Reading) (due : Due) → Opens file image (λ p i d. ⊥) rs due → Opens file image Then rs due
opens_whatever file image Then =
    reads_more file file_limit (λ bytes later d. AcceptsFirst bytes (λ p rs e. ReadsImage image (λ i f. ⊥) rs e) later d)
    (λ bytes later d. AcceptsFirst bytes (λ p rs e. ReadsImage image (Then p) rs e) later d) (λ bytes later d. first_whatever bytes image Then later d)

-- What is due --------------------------------------------------------------------------------

pub image_garbled : (image : List ℕ) (rs : List Reading) (text : List ℕ) → rs ≡ whole image text ∷ [] → length text ≤ image_limit → (due : Due) → IsGarbled text due
    → ReadsImage image (λ i d. ⊥) rs due
image_garbled image rs text is short due h = within text [] is short (refl, garbled h)

pub opened_due : (file image : List ℕ) (rs : List Reading) (o : Opened) → IsOpened file image rs o → (Then : Following) (due : Due)
    → Then o.accepted.agreed.covered.program o.image due → Opens file image Then rs due
opened_due file image rs o h Then due follows =
    within h.bytes h.later h.is h.short (accepted o.accepted.agreed.covered.program (is_accepted h.bytes o.accepted h.acceptance)
    (within h.read.text [] h.read.is h.read.short (refl, spelled o.image h.read.spelled h.read.placed follows)))

pub file_unread : (file image : List ℕ) (rs : List Reading) (due : Due) → IsUnread file file_limit rs due → Opens file image (λ p i d. ⊥) rs due
file_unread file image rs due h = unread h

pub file_refused : (file image : List ℕ) (rs : List Reading) (bytes : List ℕ) → rs ≡ whole file bytes ∷ [] → length bytes ≤ file_limit → (due : Due) → IsRefused bytes due
    → Opens file image (λ p i d. ⊥) rs due
file_refused file image rs bytes is short due h = within bytes [] is short (turned_down h refl)

pub image_refused : (file image : List ℕ) (rs : List Reading) (bytes : List ℕ) (later : List Reading) → rs ≡ whole file bytes ∷ later → length bytes ≤ file_limit
    → (p : Program) → IsAccepted bytes p → (due : Due) → ReadsImage image (λ i d. ⊥) later due → Opens file image (λ q i d. ⊥) rs due
image_refused file image rs bytes later is short p a due h = within bytes later is short (accepted p a h)

-- One reading after another ------------------------------------------------------------------

-- what is so of a reading in a part of a call is so in the call
reading_in : (s t : Source) → s.tells ≡ t.tells → ((name : List ℕ) → s.held name ≡ t.held name) → (Rose s.before s.now → Rose t.before t.now)
    → (name : List ℕ) (limit : ℕ) (r : Reading) → IsReading s name limit r → IsReading t name limit r
reading_in s t as_told as_held rises name limit r h = record {
  named = h.named;
  taken = h.taken;
  front = λ told. subst (λ (o : Option (List ℕ)). Begins o r.bytes) (as_held name) (h.front (as_told ∙ told));
  all = λ told ended. sym (as_held name) ∙ h.all (as_told ∙ told) ended;
  cause = λ failed. elim (h.cause failed) [ inl rose ↦ inl (rises rose) | inr (told, none) ↦ inr (sym as_told ∙ told, sym (as_held name) ∙ none) ];
}

-- a reading of one file, and then one of another
module _ (tells more_tells : Bool) (held more_held : HeldFiles) (old mid new : List Reading) (first before now : ℕ) (as_told : more_tells ≡ tells)
    (as_held : (name : List ℕ) → more_held name ≡ held name) (less : first ≤ before) (later : before ≤ now) (file image : List ℕ) (limit bound : ℕ) where
  abbrev one : Source
  one = record { tells = tells; held = held; old = old; new = mid; before = first; now = before }

  abbrev other : Source
  other = record { tells = more_tells; held = more_held; old = mid; new = new; before = before; now = now }

  abbrev both : Source
  both = record { tells = tells; held = held; old = old; new = new; before = first; now = now }

  others : (rs : List Reading) → AreInTurn other ((image, bound) ∷ []) rs → AreInTurn both ((image, bound) ∷ []) rs
  others [] h = tt
  others (r ∷ []) h = (reading_in other both as_told as_held (λ rose. Rose-earlier first before now less later rose) image bound r h.0, tt)
  others (r ∷ q ∷ rs) h = absurd h.1

  module _ (r : Reading) (read : drop (length old) mid ≡ r ∷ []) (h : ReadsInTurn ((file, limit) ∷ []) one) (k : ReadsInTurn ((image, bound) ∷ []) other) where
    abbrev more : List Reading
    more = drop (length mid) new

    all_added : new ≡ old ++ (r ∷ more)
    all_added = k.grew ∙ ap (λ (rs : List Reading). rs ++ more) (h.grew ∙ ap (λ (rs : List Reading). old ++ rs) read) ∙ append_assoc old (r ∷ []) more

    pub both_added : drop (length old) new ≡ r ∷ more
    both_added = ap (λ (rs : List Reading). drop (length old) rs) all_added ∙ behind old (r ∷ more)

    pub both_in_turn : ReadsInTurn ((file, limit) ∷ (image, bound) ∷ []) both
    both_in_turn =
        let reading : IsReading one file limit r = (subst (λ (rs : List Reading). AreInTurn one ((file, limit) ∷ []) rs) read h.in_turn).0 in
        record {
          grew = all_added ∙ ap (λ (rs : List Reading). old ++ rs) (sym both_added);
          in_turn = subst (λ (rs : List Reading). AreInTurn both ((file, limit) ∷ (image, bound) ∷ []) rs) (sym both_added)
              (reading_in one both refl (λ name. refl) (λ rose. Rose-later first before now rose later) file limit r reading, others more k.in_turn);
        }

-- a call that stopped at the first file
pub one_of_two : (s : Source) (file image : List ℕ) (limit bound : ℕ) → ReadsInTurn ((file, limit) ∷ []) s → ReadsInTurn ((file, limit) ∷ (image, bound) ∷ []) s
one_of_two s file image limit bound h = record { grew = h.grew; in_turn = more (handed_out s) h.in_turn }
  where
    more : (rs : List Reading) → AreInTurn s ((file, limit) ∷ []) rs → AreInTurn s ((file, limit) ∷ (image, bound) ∷ []) rs
    more [] h = tt
    more (r ∷ []) h = (h.0, tt)
    more (r ∷ q ∷ rs) h = absurd h.1
