use Rattle.std.proofs.Common.{rules, ◌≡◌, ◌+◌, ℕ, suc, ◌≤◌, List, [], Err, IfSome, refl, sym, ◌∙◌, subst, arith}
use Rattle.disk_defs.specs.Disk.{Image}
use Rattle.disk_defs.proofs.Frames.{others_same}
use Rattle.disk_defs.proofs.Moments.{started, nothing_new}
use Rattle.journal_defs.specs.Numbers.{journal_file}
use Rattle.jnl_file.specs.Errors.{error_in}
use Rattle.jnl_file.specs.Generations.{AreJournals, AreDurable}
use Rattle.site_defs.specs.OutsideJournal.{IsOutsideGenerations}
use Rattle.jnl_file.specs.declared.error.JournalError.TheVariants.{NotARecord}
use Rattle.jnl_file.specs.declared.error.GenerationsError.TheVariants.{NotAFile}
use Rattle.jnl_file.proofs.Newer.{all_told}
use Rattle.jnl_file.proofs.Outside.{told_no_journal}
use Rattle.jnl_file.proofs.Chain.{told_durable, frame_joins, named_by}
use Rattle.entry_index.specs.declared.placed.PlacedSign.{PlacedSign}
use Rattle.entry_index.proofs.Indexing.{HasSigns, told_none_yet, told_joins, told_wrong}
use Rattle.entry_index.proofs.generations.index_generations.Goals as goal

pub loop-before-init : goal.loop-before-init
loop-before-init g c =
    let u = g.D.Disk.disk c.args.disk.now in
    let none : c.new-signs.result.items ≡ [] = search rules in
    record {
      read = subst (λ (ps : List PlacedSign). IfSome u.content (λ files. HasSigns files c.args.region 0 0 ps)) (sym none) (told_none_yet u.content c.args.region);
      began = omega arith;
      durable = all_told u.content (AreDurable u c.args.region 0) (λ files h first most. absurd (omega (arith, first, most)));
      content = refl;
      moments = started u (Image u) (λ i now. now);
      frame = others_same (AreJournals c.args.region c.args.last) u;
      faults = omega arith;
    }

pub loop-before-preserved : goal.loop-before-preserved
loop-before-preserved g c =
    let view = g.D.Disk.disk in
    let l = c.loop-before in
    let inv = l.invariant in
    let call = c.in-Ok.ensures in
    let u = view c.args.disk.now in
    let v = view l.disk in
    let w = view c.index_generation.new.disk in
    let r = c.args.region in
    let n = l.before + 1 in
    let next : l.before + 1 ≡ suc l.before = omega arith in
    let least : 1 ≤ l.before + 1 = omega arith in
    let most : l.before + 1 ≤ c.args.last = omega arith in
    record {
      read = told_joins u v r l.before n next inv.content l.last_began c.in-Ok.began l.signs.items c.index_generation.new.into.items inv.read call.read;
      began = search rules;
      durable = told_durable u v w r l.before n next inv.content c.index_generation.ensures.frame inv.durable call.durable;
      content = c.index_generation.ensures.content ∙ inv.content;
      moments = nothing_new u v w (Image u) (g.met.D.Disk.lawful l.disk) inv.moments c.index_generation.ensures.any_moment;
      frame = frame_joins u v w r l.before n next inv.content c.args.last least most inv.frame c.index_generation.ensures.frame;
      faults = omega (arith, inv.faults, c.index_generation.ensures.faults.later);
    }

pub returns-in-Err-clause-outside : goal.returns-in-Err-clause-outside
returns-in-Err-clause-outside g c file offset is =
    let view = g.D.Disk.disk in
    let l = c.loop-before in
    let inv = l.invariant in
    let u = view c.args.disk.now in
    let r = c.args.region in
    let next : l.before + 1 ≡ suc l.before = omega arith in
    let most : l.before + 1 ≤ c.args.last = omega arith in
    let same : c.in_file.result ≡ NotAFile file offset = search (rules, is) in
    let told : error_in c.journal_file.result c.in-Err.error ≡ NotAFile file offset = cc (c.in_file.ensures, same) in
    let named = named_by c.journal_file.result c.in-Err.error file offset told in
    let place : journal_file (l.before + 1) r ≡ file = cc (c.journal_file.ensures, named.file_is) in
    let failed : c.index_generation.result ≡ Err (NotARecord offset) = cc (c.in-Err.is, named.error) in
    let wrong = c.index_generation.ensures.outside offset (search (rules, failed)) in
    subst (λ (f : ℕ). IfSome u.content (λ files. IsOutsideGenerations files r c.args.last f offset)) place
    (told_wrong u (view l.disk) r l.before (l.before + 1) next inv.content c.args.last l.last_began offset l.signs.items most inv.read wrong)

pub returns-in-Err-clause-no_list : goal.returns-in-Err-clause-no_list
returns-in-Err-clause-no_list g c file offset is =
    let u = g.D.Disk.disk c.args.disk.now in
    told_no_journal u.content c.args.region c.args.last file offset (returns-in-Err-clause-outside g c file offset is)

pub returns-in-Err-clause-any_moment : goal.returns-in-Err-clause-any_moment
returns-in-Err-clause-any_moment g c =
    let view = g.D.Disk.disk in
    let l = c.loop-before in
    nothing_new (view c.args.disk.now) (view l.disk) (view c.index_generation.new.disk) (Image (view c.args.disk.now)) (g.met.D.Disk.lawful l.disk) l.invariant.moments c.index_generation.ensures.any_moment

pub returns-in-Err-clause-frame : goal.returns-in-Err-clause-frame
returns-in-Err-clause-frame g c =
    let view = g.D.Disk.disk in
    let l = c.loop-before in
    let next : l.before + 1 ≡ suc l.before = omega arith in
    let least : 1 ≤ l.before + 1 = omega arith in
    let most : l.before + 1 ≤ c.args.last = omega arith in
    frame_joins (view c.args.disk.now) (view l.disk) (view c.index_generation.new.disk) c.args.region l.before (l.before + 1) next l.invariant.content c.args.last least most l.invariant.frame c.index_generation.ensures.frame

pub returns-clause-read : goal.returns-clause-read
returns-clause-read g c =
    let l = c.loop-before in
    let all : l.before ≡ c.args.last = omega arith in
    subst (λ (k : ℕ). IfSome (g.D.Disk.disk c.args.disk.now).content (λ files. HasSigns files c.args.region k l.last_began l.signs.items)) all l.invariant.read
