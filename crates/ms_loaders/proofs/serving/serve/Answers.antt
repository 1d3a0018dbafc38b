use Rattle.std.proofs.Common.{refl}
use Rattle.ms_loaders.proofs.serving.serve.Goals as goal

-- Each step is answered as its own function says.
pub returns-in-New : goal.returns-in-New
returns-in-New g c = rw c.in-New.is c.new_loader.ensures

pub returns-in-Alloc : goal.returns-in-Alloc
returns-in-Alloc g c = rw c.in-Alloc.is c.make_block.ensures

pub returns-in-Calloc : goal.returns-in-Calloc
returns-in-Calloc g c = rw c.in-Calloc.is c.make_block-in-Calloc.ensures

pub returns-in-Write : goal.returns-in-Write
returns-in-Write g c = rw c.in-Write.is (c.write.ensures, refl)

pub returns-in-Read : goal.returns-in-Read
returns-in-Read g c = rw c.in-Read.is (c.read.ensures, refl)

pub returns-in-Free : goal.returns-in-Free
returns-in-Free g c = rw c.in-Free.is (c.free.ensures, refl)

pub returns-in-Unload : goal.returns-in-Unload
returns-in-Unload g c = rw c.in-Unload.is c.unload.ensures

pub returns-in-Purge : goal.returns-in-Purge
returns-in-Purge g c = rw c.in-Purge.is ((c.purge.result, c.purge.ensures.purged), refl)
