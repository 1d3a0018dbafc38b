-- Each way down a tree tells the first block that fits, and what is left without it.
use Rattle.std.proofs.Common.{None, Some}
use Rattle.ms_blocks.specs.Tree.{blocks_of}
use Rattle.ms_blocks.proofs.tree.+take_fit.Goals as goal
use Rattle.ms_blocks.proofs.RankLemmas.{take_right, find_right, take_left, find_left, take_middle, find_middle}

pub returns-in-Some-clause-found : goal.returns-in-Some-clause-found
returns-in-Some-clause-found g t c ranked =
    let fork = c.in-Forked.fork.value in
    rw c.in-Forked.is (find_right (blocks_of fork.left) (blocks_of fork.right) fork.block c.args.words
    (Some c.in-Some.found.value.block) (rw c.in-Forked.is at ranked) (rw c.deref.ensures at c.if-deref-words.true)
    (rw (c.in-Some.is, c.deref_mut.ensures.value) at c.take_fit.ensures.found))

pub returns-in-Some-clause-left : goal.returns-in-Some-clause-left
returns-in-Some-clause-left g t c ranked =
    let fork = c.in-Forked.fork.value in
    rw (c.in-Forked.is, c.level_shrunk.ensures, c.deref_mut.ensures.value)
    (take_right (blocks_of fork.left) (blocks_of fork.right)
    (blocks_of c.take_fit.new.tree) fork.block c.args.words
    (rw c.in-Forked.is at ranked) (rw c.deref.ensures at c.if-deref-words.true)
    (rw c.deref_mut.ensures.value at c.take_fit.ensures.left))

pub returns-in-None-clause-found : goal.returns-in-None-clause-found
returns-in-None-clause-found g t c ranked =
    let fork = c.in-Forked.fork.value in
    rw c.in-Forked.is (find_right (blocks_of fork.left) (blocks_of fork.right) fork.block c.args.words
    None (rw c.in-Forked.is at ranked) (rw c.deref.ensures at c.if-deref-words.true)
    (rw (c.in-None.is, c.deref_mut.ensures.value) at c.take_fit.ensures.found))

pub returns-in-None-clause-left : goal.returns-in-None-clause-left
returns-in-None-clause-left g t c ranked =
    let fork = c.in-Forked.fork.value in
    rw (c.in-Forked.is, c.deref_mut.ensures.value)
    (take_right (blocks_of fork.left) (blocks_of fork.right)
    (blocks_of c.take_fit.new.tree) fork.block c.args.words
    (rw c.in-Forked.is at ranked) (rw c.deref.ensures at c.if-deref-words.true)
    (rw c.deref_mut.ensures.value at c.take_fit.ensures.left))

pub returns-in-Some-take_fit-clause-found : goal.returns-in-Some-take_fit-clause-found
returns-in-Some-take_fit-clause-found g t c ranked =
    let fork = c.in-Forked.fork.value in
    rw c.in-Forked.is (find_left (blocks_of fork.left)
    (blocks_of fork.right) fork.block c.in-Some-take_fit.found.value.block c.args.words
    (rw c.in-Forked.is at ranked)
    (rw (c.in-Some-take_fit.is, c.deref_mut-in-Forked.ensures.value) at c.take_fit-in-Forked.ensures.found))

pub returns-in-Some-take_fit-clause-left : goal.returns-in-Some-take_fit-clause-left
returns-in-Some-take_fit-clause-left g t c ranked =
    let fork = c.in-Forked.fork.value in
    rw (c.in-Forked.is, c.level_shrunk-in-Some-take_fit.ensures, c.deref_mut-in-Forked.ensures.value)
    (take_left (blocks_of fork.left) (blocks_of fork.right)
    (blocks_of c.take_fit-in-Forked.new.tree) fork.block c.in-Some-take_fit.found.value.block c.args.words
    (rw c.in-Forked.is at ranked)
    (rw (c.in-Some-take_fit.is, c.deref_mut-in-Forked.ensures.value) at c.take_fit-in-Forked.ensures.found)
    (rw c.deref_mut-in-Forked.ensures.value at c.take_fit-in-Forked.ensures.left))

pub returns-in-None-take_fit-clause-found : goal.returns-in-None-take_fit-clause-found
returns-in-None-take_fit-clause-found g t c ranked =
    let fork = c.in-Forked.fork.value in
    rw (c.in-Forked.is, c.take_top.ensures.0, c.deref_mut-in-Forked.ensures.value)
    (find_middle (blocks_of fork.left) (blocks_of fork.right) fork.block c.args.words
    (rw c.in-Forked.is at ranked) (rw c.deref.ensures at c.if-deref-words.false)
    (rw (c.in-None-take_fit.is, c.deref_mut-in-Forked.ensures.value) at c.take_fit-in-Forked.ensures.found))

pub returns-in-None-take_fit-clause-left : goal.returns-in-None-take_fit-clause-left
returns-in-None-take_fit-clause-left g t c ranked =
    let fork = c.in-Forked.fork.value in
    rw c.in-Forked.is
    (take_middle (blocks_of fork.left) (blocks_of fork.right) (blocks_of c.take_fit-in-Forked.new.tree)
    (blocks_of c.take_top.new.tree) fork.block c.args.words
    (rw c.in-Forked.is at ranked) (rw c.deref.ensures at c.if-deref-words.false)
    (rw (c.in-None-take_fit.is, c.deref_mut-in-Forked.ensures.value) at c.take_fit-in-Forked.ensures.found)
    (rw c.deref_mut-in-Forked.ensures.value at c.take_fit-in-Forked.ensures.left)
    (rw c.deref_mut-in-Forked.ensures.value at c.take_top.ensures.1))
