use Rattle.ms_run.proofs.AnsweredLemmas.{may_serve, answered}
use Rattle.ms_run.proofs.metering.answer.Goals as goal

pub serve-requires : goal.serve-requires
serve-requires g c = may_serve c.args.pool.now c.args.loaders.now c.requires

pub returns : goal.returns
returns g c =
    let its =
    answered c.args.pool.now c.args.loaders.now c.args.step c.serve.result c.serve.new.source c.serve.new.loaders
    c.requires c.serve.ensures in record {
      lock = its.made.lock;
      answered = record {
        manned = its.manned;
        own = its.own;
        others = its.rest;
        purge = its.purge;
      };
      made = its.made;
      touches = its.touches;
      used = its.used;
    }
