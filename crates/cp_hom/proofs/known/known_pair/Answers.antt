use Rattle.std.proofs.Common.{◌≡◌, Some, true, false}
use Rattle.cp_model.specs.Term.{apply_to}
use Rattle.cp_hom.specs.PartialMaps.{IsKnown}
use Rattle.cp_hom.proofs.PairedItems.{known_two, known_not}
use Rattle.cp_hom.proofs.known.known_pair.Goals as goal

pub returns-then-is_elsewhere : goal.returns-then-is_elsewhere
returns-then-is_elsewhere c = rw c.in-Strands.is (λ f follows w. c.is_elsewhere.ensures c.if-is_elsewhere.true f follows w.0)

pub returns-then-is_no_part : goal.returns-then-is_no_part
returns-then-is_no_part c = rw c.in-Strands.is (λ f follows w. c.is_no_part.ensures c.if-is_no_part.true f follows w.1)

pub returns-in-Terms : goal.returns-in-Terms
returns-in-Terms c = rw c.in-Terms.is c.known_term.ensures

pub returns-then-branch : goal.returns-then-branch
returns-then-branch c =
    let known : c.known_number.result ≡ Some true = cc in
    let goes : IsKnown (λ f. f.strands c.in-Origins.strand ≡ c.in-Origins.image) c.args.given.now (Some true) = rw known at c.known_number.ensures in
    rw c.in-Origins.is (known_two (λ f. f.strands c.in-Origins.strand ≡ c.in-Origins.image) (λ f. apply_to f.terms c.in-Origins.from.now ≡ c.in-Origins.to.now) c.args.given.now c.known_term-then-branch.result goes c.known_term-then-branch.ensures)

pub returns-else-branch : goal.returns-else-branch
returns-else-branch c =
    let known : c.known_number.result ≡ Some false = cc in
    let never : IsKnown (λ f. f.strands c.in-Origins.strand ≡ c.in-Origins.image) c.args.given.now (Some false) = rw known at c.known_number.ensures in
    rw c.in-Origins.is (known_not (λ f. f.strands c.in-Origins.strand ≡ c.in-Origins.image) (λ f. apply_to f.terms c.in-Origins.from.now ≡ c.in-Origins.to.now) c.args.given.now never)
