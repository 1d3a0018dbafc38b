use Rattle.std.proofs.Common.{ℕ, ◌/◌, ◌≤◌, ◌<◌, set, arith}
use Rattle.std.proofs.Math.ListN.{length-set}
use Rattle.ms_pool.proofs.searches.IndexLemmas.{class_told, levels_kept, members_told}
use Rattle.ms_pool.proofs.index.Index.tell.Goals as goal

-- The group has the levels of the root, and the space those of the group.
pub invariant_of-self : goal.invariant_of-self
invariant_of-self c =
    let f = c.self.inside in
    record {
      members = members_told f.roots f.groups c.args.root c.args.levels c.gathered.result c.requires.within
          c.self.told.1 c.self.invariant.members c.gathered.ensures;
      space = λ level group there asked has.
          c.gathered-self-inside.ensures level group there (omega arith, asked) has;
      class_space = levels_kept f.class_space f.groups (c.args.root / 16) c.gathered.result (λ group. 8 ≤ group)
          c.self.invariant.class_space (λ far. omega arith);
    }

pub invariant_of-self-else-group-lt-FIRST_CLASS_GROUP : goal.invariant_of-self-else-group-lt-FIRST_CLASS_GROUP
invariant_of-self-else-group-lt-FIRST_CLASS_GROUP c =
    let f = c.self.inside in
    record {
      members = members_told f.roots f.groups c.args.root c.args.levels c.gathered.result c.requires.within
          c.self.told.1 c.self.invariant.members c.gathered.ensures;
      space = levels_kept f.space f.groups (c.args.root / 16) c.gathered.result (λ group. group < 8)
          c.self.invariant.space (λ low. omega arith);
      class_space = class_told c.gathered-self-inside-else-group-lt-FIRST_CLASS_GROUP.result
          (set f.groups (c.args.root / 16) c.gathered.result) (omega (arith, length-set {A = ℕ}, c.self.told.1))
          c.gathered-self-inside-else-group-lt-FIRST_CLASS_GROUP.ensures;
    }
