-- What an event asks leaves loaders that it doesn't speak of, and a request that is given up takes no name.
use Rattle.std.proofs.Common.{rules}
use Rattle.jvm_log.proofs.KnownLemmas.{same_is}
use Rattle.jvm_log.proofs.NameLemmas.{uses_given_up}
use Rattle.jvm_log.proofs.machine.Machine.heed.Goals as goal

pub returns-in-Requested-clause-loaders : goal.returns-in-Requested-clause-loaders
returns-in-Requested-clause-loaders c = search (rules, same_is c.args.self.now c.ask.new.self c.ask.ensures.loaders)

pub returns-in-Failed-clause-loaders : goal.returns-in-Failed-clause-loaders
returns-in-Failed-clause-loaders c = search (rules, same_is c.args.self.now c.refuse.new.self c.refuse.ensures.loaders)

pub returns-in-Deallocated-clause-loaders : goal.returns-in-Deallocated-clause-loaders
returns-in-Deallocated-clause-loaders c = search (rules, same_is c.args.self.now c.free.new.self c.free.ensures.loaders)

pub returns-in-ChunkHandedOut-clause-loaders : goal.returns-in-ChunkHandedOut-clause-loaders
returns-in-ChunkHandedOut-clause-loaders c = search (rules, same_is c.args.self.now c.pass_the_pool.new.self c.pass_the_pool.ensures.loaders)

pub returns-in-Told-clause-loaders : goal.returns-in-Told-clause-loaders
returns-in-Told-clause-loaders c = search (rules, same_is c.args.self.now c.tell.new.self c.tell.ensures.loaders)

pub returns-in-Collection-clause-loaders : goal.returns-in-Collection-clause-loaders
returns-in-Collection-clause-loaders c = search (rules, same_is c.args.self.now c.collect.new.self c.collect.ensures.loaders)

pub returns-in-Requested-clause-names : goal.returns-in-Requested-clause-names
returns-in-Requested-clause-names c =
    uses_given_up c.ask.result c.args.said.thread c.args.self.now c.ask.new.self c.ask.ensures.lines c.ask.ensures.names

pub returns-in-Failed-clause-names : goal.returns-in-Failed-clause-names
returns-in-Failed-clause-names c =
    uses_given_up c.refuse.result c.args.said.thread c.args.self.now c.refuse.new.self c.refuse.ensures.lines c.refuse.ensures.names
