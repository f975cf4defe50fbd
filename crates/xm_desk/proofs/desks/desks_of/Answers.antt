use Rattle.std.proofs.Common.{rules, ◌≡◌, ◌<◌, ◌∙◌, ◌++◌, ◌∷◌, [], List, get_or, length, map, take, None, sym, ap, ap₂, arith}
use Rattle.std.proofs.lemmas.List.{map_more, take_all}
use Rattle.xm_config.specs.Opening.{open_fault, fresh_journal, journal_of, settings_of}
use Rattle.xm_config.specs.declared.opening.OpenFault.TheVariants.{OutOfMemory}
use Rattle.xm_config.proofs.Sound.{is-memory, sound-opens}
use Rattle.xm_rules.specs.Step.{Journal}
use Rattle.xm_rules.specs.declared.settings.DeskSettings.{DeskSettings}
use Rattle.xm_config.specs.declared.config.SecurityConfig.{SecurityConfig}
use Rattle.xm_desk.proofs.desks.desks_of.Goals as goal

pub returns-in_err-desk-clause-memory : goal.returns-in_err-desk-clause-memory
returns-in_err-desk-clause-memory g c =
    let config = c.args.config.now in
    let i = c.loop-security.security-index in
    let security = c.security-item.result in
    let fault = c.in_err-desk.field-0.0 in
    let items = c.loop-security.invariant.securities in
    let within : i < length config.securities = search (rules, arith, items) in
    let at : security ≡ get_or config.securities i security = c.security-item.is ∙ ap (λ (ss : List SecurityConfig). get_or ss i security) items in
    let settings = c.in_ok-settings.settings in
    let opens : open_fault settings ≡ None = ap open_fault c.in_ok-settings.ensures ∙ ap (λ (s : SecurityConfig). open_fault (settings_of config s)) at ∙ sound-opens config i security c.requires within in
    let is : fault ≡ OutOfMemory tt = is-memory fault (open_fault settings) opens c.in_err-desk.ensures.refused in
    search (rules, is)

pub returns-clause-opened : goal.returns-clause-opened
returns-clause-opened g c =
    let config = c.args.config.now in
    let at = c.loop-security in
    let items = at.invariant.securities in
    let same = ap (λ (ss : List SecurityConfig). length ss) items in
    at.invariant.desks ∙ ap (λ (ss : List SecurityConfig). map (journal_of config) (take at.security-index ss)) items
    ∙ ap (map (journal_of config)) (take_all at.security-index config.securities (omega (arith, same, c.loop-security-test.false, at.auto.security-index-end)))

pub loop-security-preserved : goal.loop-security-preserved
loop-security-preserved g c =
    let config = c.args.config.now in
    let i = c.loop-security.security-index in
    let securities = c.as_slice-security-items.result.now in
    let security = c.security-item.result in
    let pushed : c.push.new.self.items ≡ c.loop-security.desks.items ++ c.in_ok-desk.desk ∷ [] = search rules in
    let desk : c.in_ok-desk.desk ≡ journal_of config (get_or securities i security) =
    c.in_ok-desk.ensures.opened ∙ ap (λ (s : DeskSettings). fresh_journal s) c.in_ok-settings.ensures ∙ ap (journal_of config) c.security-item.is in
    record {
      securities = c.loop-security.invariant.securities;
      desks = pushed ∙ ap₂ (λ (ds : List Journal) (d : Journal). ds ++ d ∷ []) c.loop-security.invariant.desks desk
          ∙ sym (map_more (journal_of config) securities i security c.loop-security-test.true);
    }
