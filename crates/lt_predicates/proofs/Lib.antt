mod ClauseLaws
mod Stack
mod Conjoined
mod ActiveLaws
mod Others
mod HidingCommas
