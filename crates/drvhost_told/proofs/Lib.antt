pub mod ServedScripts
