use Rattle.std.proofs.Common.{◌≡◌, IsNone, sym, subst}
use Rattle.cp_model.specs.PointOfView.{HasDeclaredVariables}
use Rattle.cp_model.specs.Skeleton.{Skeleton, IsSkeleton}
use Rattle.cp_skel.specs.Tables.{DiffersInTable}
use Rattle.cp_expansion.specs.ChosenTest.{IsTestOf}
use Rattle.cp_expansion.specs.Expansion.{IsExpansionOf}
use Rattle.cp_expansion.specs.Views.{expansion_by}
use Rattle.cp_expansion.proofs.expansion.expand.Goals as goal

pub expand_test-requires : goal.expand_test-requires
expand_test-requires c =
    let t = c.in-Some.test in
    let is : t.skeleton ≡ c.args.k.now = rw c.in-Some.is at c.in_ok-test.ensures.skeleton in
    let test : IsTestOf c.args.k.now t.node t.critical = rw c.in-Some.is at c.in_ok-test.ensures.test in
    record {
      skeleton = subst (IsSkeleton c.args.protocol.now) (sym is) c.requires.skeleton;
      declared = subst (λ (k : Skeleton). HasDeclaredVariables k.variables k) (sym is) c.requires.declared;
      test = subst (λ (k : Skeleton). IsTestOf k t.node t.critical) (sym is) test;
    }

pub returns : goal.returns
returns c =
    let is : c.in-Some.test.skeleton ≡ c.args.k.now = rw c.in-Some.is at c.in_ok-test.ensures.skeleton in
    let made = c.in_ok-expanded.expanded in
    record {
      exact = subst (λ (k : Skeleton). IsExpansionOf c.args.protocol.now k (expansion_by made.0 made.1)) is c.in_ok-expanded.ensures.exact;
      table = subst (λ (k : Skeleton). DiffersInTable k made.1.skeleton) is c.in_ok-expanded.ensures.table;
      sound = c.in_ok-expanded.ensures.sound;
      none = (λ e. absurd (cc), λ nil. subst IsNone c.in-Some.is (c.in_ok-test.ensures.none.1 nil));
    }
