-- The problems of a report that was read back meet what the search asks of them.
use Rattle.std.proofs.Common.{◌≡◌, ℕ, ◌<◌, List, [], length, get_or, map, Some, sym, ap, subst, Ok}
use Rattle.cp_lists.specs.Lists.{IsIn}
use Rattle.cp_lists.proofs.Members.{into_map, item_is_in}
use Rattle.cp_model.specs.PointOfView.{IsPointOfView}
use Rattle.cp_model.specs.Tree.{Tree}
use Rattle.cp_sexpr.specs.Syntax.{Forms}
use Rattle.cp_language.specs.Input.{Entry, stated, faults_of, input_of}
use Rattle.cp_language.specs.Faults.{items_of}
use Rattle.cp_language.specs.Problems.{Problem}
use Rattle.cp_report.specs.ReadBack.{Report, IsReadBack, sections_of, input_forms, report_of}
use Rattle.cp_readback.proofs.AcceptedTrees.{input_faultless}
use Rattle.cp_load.specs.Inputs.{entry_view}
use Rattle.cp_load.specs.declared.input.Entry.{Entry as ProgramEntry}
use Rattle.cp_language.proofs.Problems as wellformed
use Rattle.cp_roots.specs.Over.{IsOver}

-- A problem is a point-of-view skeleton over its protocol.
pub record IsSearchable (p : Problem) : Type 0 where
  pub over : IsOver p.protocol p.skeleton
  pub own : IsPointOfView p.variables p.skeleton

-- the problem of an entry of well-formed input
of_entry : (fs : Forms) (e : Entry) (p : Problem) → faults_of fs ≡ [] → IsIn e (input_of fs) → stated e ≡ Some p → IsSearchable p
of_entry fs e p none listed is = record {
  over = record { of_role = (wellformed.are_skeletons fs e p none listed is).of_role };
  own = wellformed.map_to_themselves fs e p none listed is;
}

-- The problem at a place of a report that was read back.
pub problem_at : (fs : Forms) (es : List ProgramEntry) (ts : List Tree) (i : ℕ) (d : ProgramEntry) (p : Problem) → IsReadBack fs (Ok (record { entries = map entry_view es; trees = ts })) → i < length es → d ≡ get_or es i d
    → Some p ≡ stated (entry_view d) → IsSearchable p
problem_at fs es ts i d p read lt is some =
    let same : map entry_view es ≡ (report_of fs).entries = ap (λ (r : Report). r.entries) read.1 in
    of_entry (input_forms (sections_of (items_of fs)).sections) (entry_view d) p (input_faultless fs read.0) (subst (λ (ds : List Entry). IsIn (entry_view d) ds) same (into_map entry_view (item_is_in es i d lt is))) (sym some)
