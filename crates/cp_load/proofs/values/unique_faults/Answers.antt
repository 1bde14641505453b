use Rattle.std.proofs.Common.{◌≡◌, sym, ap, ◌∙◌}
use Rattle.cp_base.specs.declared.place.Code.TheVariants.{UniqNowhere}
use Rattle.cp_sexpr.specs.View.{view}
use Rattle.cp_language.specs.Faults.{fault_unless, place_of}
use Rattle.cp_language.specs.Terms.{atom_faults, term_of, as_atom}
use Rattle.cp_language.specs.Problems.{is_not_empty, origins_from}
use Rattle.cp_scope.specs.FirstFault.{first_onto, onto_none}
use Rattle.cp_load.specs.Originations.{originates}
use Rattle.cp_load.proofs.UniqueOrigins.{not-nowhere}
use Rattle.cp_scope.proofs.Firsts.{merged-unless}
use Rattle.cp_load.proofs.values.unique_faults.Goals as goal

pub returns : goal.returns
returns c =
    let ds = c.args.variables.now in
    let ks = c.args.strands.now in
    let f = view c.args.form.now in
    let i = c.atom_faults.new.first in
    let v = as_atom (term_of ds f) in
    let holds : c.originates-holds.result ≡ is_not_empty (origins_from 0 ks v) = c.originates-holds.ensures ∙ ap (originates ks) c.in_ok-value.ensures ∙ sym (not-nowhere ks 0 v) in
    merged-unless c.args.first.now i c.note_unless_faulty.new.self c.merge.new.self (atom_faults ds f) (fault_unless (is_not_empty (origins_from 0 ks v)) (place_of f) UniqNowhere)
    (c.atom_faults.ensures ∙ ap (λ o. first_onto o (atom_faults ds f)) c.new-inside.ensures)
    (c.note_unless_faulty.ensures ∙ ap (λ at. onto_none i (fault_unless c.originates-holds.result at UniqNowhere)) c.place_of.ensures ∙ ap (λ b. onto_none i (fault_unless b (place_of f) UniqNowhere)) holds)
    c.merge.ensures
