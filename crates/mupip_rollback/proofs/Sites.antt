-- What the files of a site stand for, where that is known in two ways.
use Rattle.std.proofs.Common.{◌≡◌, List, [], length, refl, sym, ◌∙◌, ap, subst}
use Rattle.std.proofs.Math.Path.{fun_ext}
use Rattle.disk_defs.specs.Disk.{Files}
use Rattle.journal_defs.specs.Broken.{broken, broken_text}
use Rattle.journal_defs.specs.Instance.{InstanceRecord, generation, site_name}
use Rattle.journal_defs.specs.Sequence.{Records}
use Rattle.journal_defs.specs.Fit.{IsSoundImage}
use Rattle.journal_laws.proofs.Readings.{records_one}
use Rattle.journal_laws.proofs.Runs as runs
use Rattle.site_defs.specs.Behind.{IsStanding, IsSiteWith}
use Rattle.site_defs.specs.Contents.{Contents, Leftover, Standing}
use Rattle.site_defs.specs.Stands.{IsSite, HasLeft, texts_of, losts_of, torn_of}
use Rattle.site_store.proofs.Starts.{starts_of, epochs_of}

-- files stand for one site
pub one_site : (f : Files) (c d : Contents) → IsSite f c → IsSite f d → c ≡ d
one_site f c d a b =
    let same : a.records ≡ b.records = records_one f a.records b.records a.image.held b.image.held in
    let image : IsSoundImage f b.records c.sequence = subst (λ (u : Records). IsSoundImage f u c.sequence) same a.image in
    let seqs : c.sequence ≡ d.sequence = runs.one b.records c.sequence d.sequence image.sequence b.image.sequence in
    let own : c.instance ≡ d.instance = sym a.instance ∙ ap (λ (u : Records). u.instance) same ∙ b.instance in
    let begun : c.starts ≡ d.starts = fun_ext (λ r. a.starts r ∙ ap (λ (u : Records). starts_of (u.journal r)) same ∙ sym (b.starts r)) in
    let taken : c.epochs ≡ d.epochs = fun_ext (λ r. a.epochs r ∙ ap (λ (u : Records). epochs_of (u.journal r)) same ∙ sym (b.epochs r)) in
    let wrote : c.texts ≡ d.texts = a.texts ∙ ap (λ (l : List InstanceRecord). texts_of f (generation l)) own ∙ sym b.texts in
    let lost : c.losts ≡ d.losts = a.losts ∙ ap (λ (l : List InstanceRecord). losts_of f (generation l)) own ∙ sym b.losts in
    λ i. record { instance = own i; starts = begun i; epochs = taken i; texts = wrote i; losts = lost i; sequence = seqs i }

-- and have one text of what is broken
pub one_left : (f : Files) (c : Contents) (l m : Leftover) → HasLeft f c l → HasLeft f c m → l.broken ≡ m.broken
one_left f c l m a b =
    a.broken
    ∙ ap (λ (u : Records). broken_text (site_name c.instance) (length c.sequence) (broken u (length c.sequence))) (records_one f a.records b.records a.held b.held)
    ∙ sym b.broken

-- which there is
pub some_left : (f : Files) (c : Contents) → IsSite f c → (left : Leftover) × HasLeft f c left
some_left f c is = (
  record { broken = broken_text (site_name c.instance) (length c.sequence) (broken is.records (length c.sequence)); torn = torn_of f (generation c.instance) },
  record { records = is.records; held = is.image.held; broken = refl; torn = refl },
)

-- the same with what lies behind them
pub one_standing : (f : Files) (c : Contents) (left : Leftover) (s : Standing) → IsSite f c → HasLeft f c left → IsStanding f s → record { contents = c; broken = left.broken } ≡ s
one_standing f c left s is has was =
    let same : c ≡ s.contents = one_site f c s.contents is was.site in
    let text : left.broken ≡ s.broken = one_left f s.contents left (record { broken = s.broken; torn = was.torn }) (subst (λ (x : Contents). HasLeft f x left) same has) was.left in
    λ i. record { contents = same i; broken = text i }

pub standing_of : (f : Files) (o : Standing) → IsSiteWith f o → IsStanding f o
standing_of f o is = record { site = is.site; torn = []; left = is.left }
