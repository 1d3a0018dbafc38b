-- The free leaves of the tree are the free parts that its lent leaves leave over.
use Rattle.std.proofs.Common.{arith, refl, sym, ap, ◌∙◌}
use Rattle.ms_buddy.specs.Boxes.{shape_of}
use Rattle.ms_buddy.specs.Leaves.{free_of}
use Rattle.ms_buddy.proofs.FreeLeafLemmas.{free_of-tree}
use Rattle.ms_buddy.proofs.changes.CarveLemmas.{ends_in}
use Rattle.ms_buddy.proofs.KeptTreeLemmas.{are_leaves}
use Rattle.ms_buddy.proofs.boxes.BoxLemmas.{no_room_exactly, always}
use Rattle.ms_buddy.proofs.tree.SplitTreeRootChunkArea.carve.Goals as goal

pub carve-requires-clause-may : goal.carve-requires-clause-may
carve-requires-clause-may g c = record {
  of_root = record { level_fits = omega arith; aligned = refl; in_root = omega arith };
  is_part = (omega arith, c.requires.aligned);
  inside = record {
    low = omega arith;
    from = omega arith;
    to = ends_in (record { start = c.args.at; level = c.args.level }) 0 0 (omega arith, c.requires.aligned)
        (omega arith, refl) (omega arith) (omega arith) c.requires.in_root;
  };
  fits = c.requires.front;
}

pub returns-clause-no_room : goal.returns-clause-no_room
returns-clause-no_room g c =
    let e = sym (ap free_of c.self.view_is) ∙ free_of-tree (shape_of c.self.inside.node) c.self.invariant in
    rw e (no_room_exactly (record { start = c.args.at; level = c.args.level }) _ c.carve.result c.carve.ensures.answers.room
    c.carve.ensures.answers.refusal)

pub returns-clause-refusal : goal.returns-clause-refusal
returns-clause-refusal g c =
    let e = sym (ap free_of c.self.view_is) ∙ free_of-tree (shape_of c.self.inside.node) c.self.invariant in
    rw e c.carve.ensures.answers.refusal

pub returns-clause-leaves : goal.returns-clause-leaves
returns-clause-leaves g c = always _ c.carve.result (are_leaves (shape_of c.carve.new.self) c.carve.ensures.tree)
