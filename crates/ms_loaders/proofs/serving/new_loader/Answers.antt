use Rattle.std.proofs.Common.{inl, inr, refl, sym, ◌∙◌, arith}
use Rattle.ms_base.specs.Names.{named}
use Rattle.ms_loader.specs.Loader.{new_loader}
use Rattle.ms_loader_map.proofs.NamedLemmas.{found, unused_name}
use Rattle.ms_loaders.proofs.ServingLemmas.{both_of_new, both_back, closed_back}
use Rattle.ms_loaders.proofs.serving.new_loader.Goals as goal

pub returns-then-contains : goal.returns-then-contains
returns-then-contains g c = (
  inl (refl, found (named c.args.loaders.now c.args.name) (sym c.contains.ensures ∙ c.if-contains.true), refl),
  refl,
)

pub returns-in-Err : goal.returns-in-Err
returns-in-Err g c = (
  inr (inl (
    unused_name c.args.loaders.now c.args.name c.contains.result c.contains.ensures c.if-contains.false,
    c.in-Err.ensures.opened,
  )),
  refl,
)

pub open-requires-clause-unused : goal.open-requires-clause-unused
open-requires-clause-unused g c =
    unused_name c.args.loaders.now c.args.name c.contains.result c.contains.ensures c.if-contains.false

pub returns-in-Ok-open : goal.returns-in-Ok-open
returns-in-Ok-open g c = record {
  accounts = c.in-Ok.accounts;
  unused = unused_name c.args.loaders.now c.args.name c.contains.result c.contains.ensures c.if-contains.false;
  opened = c.in-Ok.ensures.opened;
  added = c.in-Ok-open.ensures.made;
  sound = c.in-Ok-open.ensures.sound;
}

pub close_both-requires : goal.close_both-requires
close_both-requires g c =
    let back = c.in-Err-open.ensures.back in let opened = c.in-Ok.ensures in record {
      both = both_back _ _ (new_loader c.in-Ok.accounts.0 c.in-Ok.accounts.1 c.args.kind)
          (c.in-Err-open.account, c.in-Err-open.class_account) back.account back.class_account
          (both_of_new _ _ c.in-Ok.accounts c.args.kind opened.empty opened.class_empty opened.served);
      counted = λ space. omega (arith, opened.counted space);
    }

pub returns-in-Err-open : goal.returns-in-Err-open
returns-in-Err-open g c =
    let back = c.in-Err-open.ensures.back in let opened = c.in-Ok.ensures in
    let unused = unused_name c.args.loaders.now c.args.name c.contains.result c.contains.ensures c.if-contains.false in (
      inr (inr (
        refl,
        record {
          accounts = c.in-Ok.accounts;
          middle = c.open_both.new.self;
          unused = unused;
          opened = opened.opened;
          both = both_of_new _ _ c.in-Ok.accounts c.args.kind opened.empty opened.class_empty opened.served;
          closed = closed_back g.S.AccountSource.closed_both c.open_both.new.self c.close_both.new.self (new_loader c.in-Ok.accounts.0 c.in-Ok.accounts.1 c.args.kind)
              (c.in-Err-open.account, c.in-Err-open.class_account) back.account back.class_account
              c.close_both.ensures.closed;
        },
      )),
      c.in-Err-open.ensures.unchanged,
    )
