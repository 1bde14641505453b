-- Facts of the commands, by their names.
use Rattle.std.proofs.Common.{◌≡◌, ◌↔◌, ◌⊎◌, inl, inr, ℕ, List, true, refl, sym, ap, subst, ⊎_elim}
use Rattle.cp_base.specs.declared.place.Refusal.{Refusal}
use Rattle.cp_base.specs.declared.status.Status.{Status}
use Rattle.cp_lists.proofs.Members.{none_in_empty}
use Rattle.cp_model.specs.declared.tree.Limits.{Limits}
use Rattle.cp_sexpr.specs.Syntax.{Forms}
use Rattle.cp_language.proofs.OneAnswer.{one_first}
use Rattle.cp_language.specs.Input.{faults_of}
use Rattle.cp_words.specs.declared.command.CommandName.{CommandName}
use Rattle.cp_words.specs.declared.command.CommandName.TheVariants.{Analyse, Shapes, Gen, Bench}
use Rattle.cp_app.specs.Headline.{AreWellFormed, AreFaulty, IsReported}
use Rattle.cp_app.specs.Details.{IsReportedInDetail, AnswersInDetailBy}
use Rattle.cp_app.specs.Commands.{reads, AcceptsBy, RefusesBy, AnswersBy}
use Rattle.cp_app.specs.Reported.{text_by}

-- `analyse` and `shapes` read, and no others
pub prints_report : (name : CommandName) → reads name ≡ true → (name ≡ Analyse) ⊎ (name ≡ Shapes)
prints_report Analyse reading = inl refl
prints_report Shapes reading = inr refl
prints_report (Gen n) reading = cc
prints_report (Bench n) reading = cc

reads_for : (name : CommandName) → (name ≡ Analyse) ⊎ (name ≡ Shapes) → reads name ≡ true
reads_for name (inl is) = ap reads is
reads_for name (inr is) = ap reads is

pub reads_exactly : (name : CommandName) → (reads name ≡ true) ↔ ((name ≡ Analyse) ⊎ (name ≡ Shapes))
reads_exactly name = (prints_report name, reads_for name)

-- What holds of `analyse` and of `shapes` holds of what reads.
for_reading : (P : CommandName → Type 0) → P Analyse → P Shapes → (name : CommandName) → reads name ≡ true → P name
for_reading P analyse shapes name reading = ⊎_elim (λ is. subst P (sym is) analyse) (λ is. subst P (sym is) shapes) (prints_report name reading)

-- a command that reads accepts exactly what is well formed, and refuses what is not
pub accepts_exactly : (name : CommandName) (fs : Forms) → reads name ≡ true → AcceptsBy name fs ↔ AreWellFormed fs
accepts_exactly name fs = for_reading (λ c. AcceptsBy c fs ↔ AreWellFormed fs) (λ is. is, λ is. is) (λ is. is, λ is. is) name

pub refuses_exactly : (name : CommandName) (fs : Forms) (r : Refusal) → reads name ≡ true → RefusesBy name fs r ↔ AreFaulty fs r
refuses_exactly name fs r = for_reading (λ c. RefusesBy c fs r ↔ AreFaulty fs r) (λ is. is, λ is. is) (λ is. is, λ is. is) name

pub faulty_or_not : (fs : Forms) (r : Refusal) → AreWellFormed fs → AreFaulty fs r → ⊥
faulty_or_not fs r well_formed first = none_in_empty well_formed first.listed

-- no command accepts and refuses the same forms
pub accepts_or_refuses : (name : CommandName) (fs : Forms) (r : Refusal) → AcceptsBy name fs → RefusesBy name fs r → ⊥
accepts_or_refuses Analyse fs r = faulty_or_not fs r
accepts_or_refuses Shapes fs r = faulty_or_not fs r
accepts_or_refuses (Gen n) fs r = λ accepts refuses. refuses
accepts_or_refuses (Bench n) fs r = λ accepts refuses. refuses

-- a command refuses forms for one fault
pub one_fault : (name : CommandName) (fs : Forms) (r s : Refusal) → RefusesBy name fs r → RefusesBy name fs s → r ≡ s
one_fault Analyse fs r s first other = one_first (faults_of fs) r s first other
one_fault Shapes fs r s first other = one_first (faults_of fs) r s first other
one_fault (Gen n) fs r s first other = absurd first
one_fault (Bench n) fs r s first other = absurd first

-- what is reported of the text that a command prints is its answer, and the other way round
pub detail_exactly : (name : CommandName) (limits : Limits) (input text : List ℕ) (s : Status) → reads name ≡ true
    → AnswersInDetailBy name limits input text s ↔ IsReportedInDetail name (text_by name) limits input text s
detail_exactly name limits input text s =
    for_reading (λ c. AnswersInDetailBy c limits input text s ↔ IsReportedInDetail c (text_by c) limits input text s) (λ is. is, λ is. is) (λ is. is, λ is. is) name

pub answers_reported : (name : CommandName) (limits : Limits) (input text : List ℕ) (s : Status) → reads name ≡ true → AnswersBy name limits input text s → IsReported (text_by name) limits input text s
answers_reported name limits input text s =
    for_reading (λ c. AnswersBy c limits input text s → IsReported (text_by c) limits input text s) (λ is. is) (λ is. is) name

-- an answer in detail is an answer
pub detail_answers : (name : CommandName) (limits : Limits) (input text : List ℕ) (s : Status) → AnswersInDetailBy name limits input text s → AnswersBy name limits input text s
detail_answers Analyse limits input text s is = is.reported
detail_answers Shapes limits input text s is = is.reported
detail_answers (Gen n) limits input text s is = is
detail_answers (Bench n) limits input text s is = is.benchmark
